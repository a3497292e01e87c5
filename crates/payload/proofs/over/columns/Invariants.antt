-- `columns` meets its contract: sixteen bytes of all members at a time, as lines of the frame are joined (`columns_more`).
-- The invariant: of every member the bytes below c are drawn.
use Prim.Native.Nat.{◌≤◌, ◌-◌, ◌+◌, min}
use Rattle.ground.specs.Drawn.{Drawing}
use Rattle.payload.specs.Inner.Area.{area}
use Rattle.payload.specs.Joining.{ranked_byte}
use Rattle.payload.specs.Order.{group_byte}
use Rattle.payload.proofs.over.columns.Given as goal

abbrev pub invariant-loop-c : goal.invariant-loop-c
invariant-loop-c l = (l.c ≤ l.n + 16) × Drawing (area l.p 0 0 l.x 0 (min l.c l.n)) (λ k. group_byte l.p (ranked_byte l.x l.frame) (k - 0)) l.initial.members l.members

abbrev pub decreases-loop-c : goal.decreases-loop-c
decreases-loop-c l = l.n - l.c
