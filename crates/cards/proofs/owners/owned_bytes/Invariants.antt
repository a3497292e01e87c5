-- The first bytes say whether their slots are the group's.
use Rattle.std.specs.Prelude.{◌&&◌}
use Rattle.ground.specs.Counting.Each.{Done}
use Rattle.ground.specs.Flags.{one_if}
use Rattle.ground.specs.Plain.{◌<?◌}
use Rattle.cards.specs.Owners.{is_marked}
use Rattle.cards.proofs.owners.owned_bytes.Given as goal

abbrev pub invariant-loop-owner : goal.invariant-loop-owner
invariant-loop-owner l = Done l.owner-index (λ j. one_if (l.group <? 2 && is_marked l.fn.owners l.group j)) l.fn.owners l.owner-items
