-- `join_from` meets its contract: the frame is drawn, a member at a time (`rank_more`).
-- The invariant: the members of the ranks below r are in their columns.
use Prim.Native.Nat.{◌≤◌, ◌-◌}
use Rattle.ground.specs.Drawn.{Drawing}
use Rattle.payload.specs.Inner.Area.{area}
use Rattle.payload.specs.Order.{group_byte}
use Rattle.payload.specs.Joining.{started_byte}
use Rattle.payload.proofs.plain.join_from.Given as goal

abbrev pub invariant-loop-r : goal.invariant-loop-r
invariant-loop-r l = (l.r ≤ l.x) × Drawing (area l.x l.place 0 l.p 0 l.r) (λ k. group_byte l.x (started_byte l.starts l.store) (k - l.place)) l.initial.out l.out

abbrev pub decreases-loop-r : goal.decreases-loop-r
decreases-loop-r l = l.x - l.r
