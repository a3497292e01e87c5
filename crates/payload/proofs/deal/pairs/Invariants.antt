-- The invariant: the first i pairs are put together.
use mathlib.Core.Path.{◌≡◌}
use Prim.Native.Nat.{◌≤◌, ◌-◌}
use lib.ListN.{length}
use Rattle.payload.specs.Inner.Deal.{Pairs}
use Rattle.payload.proofs.deal.pairs.Given as goal

abbrev pub invariant-loop-i : goal.invariant-loop-i
invariant-loop-i l = (length l.w ≡ 64) × (l.i ≤ 64) × Pairs l.i l.q l.w

abbrev pub decreases-loop-i : goal.decreases-loop-i
decreases-loop-i l = 64 - l.i
