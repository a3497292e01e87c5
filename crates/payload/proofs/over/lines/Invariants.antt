-- `lines` meets its contract: sixteen lines at a time, from where the front may be shorter than it is (`over_lines`).
-- The invariant: a front of the lines below c.
use Prim.Native.Nat.{◌≤◌, ◌-◌, ◌+◌, ◌*◌, min}
use Rattle.payload.specs.Inner.Front.{Front}
use Rattle.payload.specs.Joining.{started_byte}
use Rattle.payload.specs.Order.{group_byte}
use Rattle.payload.proofs.over.lines.Given as goal

abbrev pub invariant-loop-c : goal.invariant-loop-c
invariant-loop-c l = (l.c ≤ l.n + 16) × Front l.place (min l.c l.n * l.x) (l.place + l.x * l.p) (group_byte l.x (started_byte l.starts l.store)) l.initial.out l.out

abbrev pub decreases-loop-c : goal.decreases-loop-c
decreases-loop-c l = l.n - l.c
