-- After each turn the highest number of an active one of the slots walked.
use Rattle.std.specs.Prelude.{◌≡◌}
use Rattle.ground.specs.Counting.Words.{greatest}
use Rattle.sender.specs.Table.{is_active, slot_at}
use Rattle.sender.proofs.board.top_of.Given as goal

abbrev pub invariant-loop-slot : goal.invariant-loop-slot
invariant-loop-slot l = l.top ≡ greatest l.slot-index (λ j. is_active (slot_at l.slots j).state) (λ j. (slot_at l.slots j).number)
