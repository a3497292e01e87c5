-- `three` meets its contract: 32 lines at a time, as sixteen lines of six bytes (`over_three`).
-- The invariant: a front of the lines below c.
use Prim.Native.Nat.{◌≤◌, ◌-◌, ◌+◌, ◌*◌, min}
use Rattle.payload.specs.Inner.Front.{Front}
use Rattle.payload.specs.Joining.{started_byte}
use Rattle.payload.specs.Order.{group_byte}
use Rattle.payload.proofs.over.three.Given as goal

abbrev pub invariant-loop-c : goal.invariant-loop-c
invariant-loop-c l = (l.c ≤ l.n + 32) × Front l.place (min l.c l.n * 3) (l.place + 3 * l.p) (group_byte 3 (started_byte l.starts l.store)) l.initial.out l.out

abbrev pub decreases-loop-c : goal.decreases-loop-c
decreases-loop-c l = l.n - l.c
