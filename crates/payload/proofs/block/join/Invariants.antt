-- `join` meets its contract: the frame is drawn, a tile at a time. The last tile may start before c, and draw some lines a second time (`lines_more`).
-- The invariant: the lines below c are drawn.
use Prim.Native.Nat.{◌≤◌, ◌-◌, ◌+◌, min}
use Rattle.ground.specs.Drawn.{Drawing}
use Rattle.payload.specs.Inner.Area.{area}
use Rattle.payload.specs.Joining.{ranked_byte}
use Rattle.payload.specs.Order.{group_byte}
use Rattle.payload.proofs.block.join.Given as goal

abbrev pub invariant-loop-c : goal.invariant-loop-c
invariant-loop-c l = (l.c ≤ l.p + 256) × Drawing (area l.x 0 0 (min l.c l.p) 0 l.x) (λ k. group_byte l.x (ranked_byte l.p l.members) (k - 0)) l.initial.frame l.frame

abbrev pub decreases-loop-c : goal.decreases-loop-c
decreases-loop-c l = l.p - l.c
