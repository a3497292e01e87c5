-- `columns` meets its contract: the columns are drawn, w lines at a time. The last w may start before c, and draw some lines a second time (`lines_more`).
-- The invariant: of the columns the lines below c are drawn.
use Prim.Native.Nat.{◌≤◌, ◌-◌, ◌+◌, min}
use Rattle.ground.specs.Drawn.{Drawing}
use Rattle.payload.specs.Inner.Area.{area}
use Rattle.payload.specs.Joining.{ranked_byte}
use Rattle.payload.specs.Order.{group_byte}
use Rattle.payload.proofs.block.columns.Given as goal

abbrev pub invariant-loop-c : goal.invariant-loop-c
invariant-loop-c l = (l.from ≤ l.c) × (l.c ≤ l.to + l.w) × Drawing (area l.x 0 l.from (min l.c l.to - l.from) l.r l.h) (λ k. group_byte l.x (ranked_byte l.p l.members) (k - 0)) l.initial.frame l.frame

abbrev pub decreases-loop-c : goal.decreases-loop-c
decreases-loop-c l = l.to - l.c
