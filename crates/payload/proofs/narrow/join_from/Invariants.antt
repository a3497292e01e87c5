-- `join_from` meets its contract: the frame is drawn, w lines at a time (`lines_more`).
-- The invariant: the lines below c are drawn.
use Prim.Native.Nat.{◌≤◌, ◌-◌, ◌+◌, min}
use Rattle.ground.specs.Drawn.{Drawing}
use Rattle.payload.specs.Inner.Area.{area}
use Rattle.payload.specs.Joining.{started_byte}
use Rattle.payload.specs.Order.{group_byte}
use Rattle.payload.proofs.narrow.join_from.Given as goal

abbrev pub invariant-loop-c : goal.invariant-loop-c
invariant-loop-c l = (l.c ≤ l.p + l.w) × Drawing (area l.x l.place 0 (min l.c l.p) 0 l.x) (λ k. group_byte l.x (started_byte l.starts l.store) (k - l.place)) l.initial.out l.out

abbrev pub decreases-loop-c : goal.decreases-loop-c
decreases-loop-c l = l.p - l.c
