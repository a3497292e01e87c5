-- The owner row is the state's first 64 bytes: after i turns the first i places are read (`Done`), and after 64 the whole table.
use mathlib.Core.Path.{◌≡◌}
use Prim.Native.Nat.{◌≤◌, ◌-◌}
use lib.ListN.{length, get_or}
use Rattle.ground.specs.Counting.Each.{Done}
use Rattle.c_cards.proofs.card_calls.owners_in.Given as goal

abbrev pub invariant-loop-i : goal.invariant-loop-i
invariant-loop-i l = (length l.initial.owners ≡ 64) × (l.i ≤ 64) × Done l.i (λ j. get_or l.state j 0) l.initial.owners l.owners

abbrev pub decreases-loop-i : goal.decreases-loop-i
decreases-loop-i l = 64 - l.i
