-- `spread` meets its contract: the members are filled, one behind the other (`member_more`).
-- The invariant: the members of the ranks below r are in place.
use Prim.Native.Nat.{◌≤◌, ◌-◌, ◌*◌, ◌/◌, ◌%◌}
use Rattle.ground.specs.Drawn.{Filling}
use Rattle.payload.specs.Order.{member_byte}
use Rattle.payload.proofs.plain.spread.Given as goal

abbrev pub invariant-loop-r : goal.invariant-loop-r
invariant-loop-r l = (l.r ≤ l.x) × Filling 0 (l.r * l.p) (λ k. member_byte l.x l.frame (k / l.p) (k % l.p)) l.initial.members l.members

abbrev pub decreases-loop-r : goal.decreases-loop-r
decreases-loop-r l = l.x - l.r
