-- `join_from` meets its contract: the frame is drawn, h columns at a time (`columns_more`).
-- The invariant: the ranks below c are in their columns.
use Prim.Native.Nat.{◌≤◌, ◌-◌, ◌+◌, min}
use Rattle.ground.specs.Drawn.{Drawing}
use Rattle.payload.specs.Inner.Area.{area}
use Rattle.payload.specs.Joining.{started_byte}
use Rattle.payload.specs.Order.{group_byte}
use Rattle.payload.proofs.block.join_from.Given as goal

abbrev pub invariant-loop-c : goal.invariant-loop-c
invariant-loop-c l = (l.c ≤ l.x + l.h) × Drawing (area l.x l.place 0 l.p 0 (min l.c l.x)) (λ k. group_byte l.x (started_byte l.starts l.store) (k - l.place)) l.initial.out l.out

abbrev pub decreases-loop-c : goal.decreases-loop-c
decreases-loop-c l = l.x - l.c
