-- The invariant: the first l lines are right, and the next one begins where the place has run to.
use mathlib.Core.Path.{◌≡◌}
use Prim.Native.Nat.{◌≤◌, ◌+◌, ◌-◌, ◌*◌, ◌/◌, ◌%◌}
use lib.ListN.{get_or}
use Rattle.payload.specs.Inner.Front.{Front}
use Rattle.payload.proofs.over.write.Given as goal

abbrev pub invariant-loop-l : goal.invariant-loop-l
invariant-loop-l l = (l.l ≤ 16) × (l.to ≡ l.at + l.l * l.x) × Front l.at (l.l * l.x) (l.at + 15 * l.x + 8) (λ i. get_or l.q (i / l.x * 8 + i % l.x) 0) l.initial.out l.out

abbrev pub decreases-loop-l : goal.decreases-loop-l
decreases-loop-l l = 16 - l.l
