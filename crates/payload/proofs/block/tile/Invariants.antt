-- `tile` meets its contract: the lines are drawn, h columns at a time. The last h may start before c, and be drawn in part a second time (`columns_more`).
-- The invariant: the ranks below c are in their columns.
use Prim.Native.Nat.{◌≤◌, ◌-◌, ◌+◌, min}
use Rattle.ground.specs.Drawn.{Drawing}
use Rattle.payload.specs.Inner.Area.{area}
use Rattle.payload.specs.Joining.{ranked_byte}
use Rattle.payload.specs.Order.{group_byte}
use Rattle.payload.proofs.block.tile.Given as goal

abbrev pub invariant-loop-c : goal.invariant-loop-c
invariant-loop-c l = (l.c ≤ l.x + l.h) × Drawing (area l.x 0 l.from (l.to - l.from) 0 (min l.c l.x)) (λ k. group_byte l.x (ranked_byte l.p l.members) (k - 0)) l.initial.frame l.frame

abbrev pub decreases-loop-c : goal.decreases-loop-c
decreases-loop-c l = l.x - l.c
