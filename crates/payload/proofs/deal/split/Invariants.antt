-- The invariant: the first i numbers are split.
use Prim.Native.Nat.{◌≤◌, ◌-◌}
use Rattle.payload.specs.Inner.Deal.{Split}
use Rattle.payload.proofs.deal.split.Given as goal

abbrev pub invariant-loop-i : goal.invariant-loop-i
invariant-loop-i l = (l.i ≤ l.n) × Split l.n l.i l.w l.s

abbrev pub decreases-loop-i : goal.decreases-loop-i
decreases-loop-i l = l.n - l.i
