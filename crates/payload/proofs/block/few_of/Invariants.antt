-- The invariant: the first r starts are in place.
use mathlib.Core.Path.{◌≡◌}
use Prim.Native.Nat.{◌≤◌, ◌-◌, min}
use lib.ListN.{length, get_or}
use Rattle.ground.specs.Drawn.{Filling}
use Rattle.payload.proofs.block.few_of.Given as goal

abbrev pub invariant-loop-r : goal.invariant-loop-r
invariant-loop-r l = (length l.initial.own ≡ 8) × (l.r ≤ 8) × Filling 0 l.r (λ i. get_or l.starts (min i (l.x - 1)) 0) l.initial.own l.own

abbrev pub decreases-loop-r : goal.decreases-loop-r
decreases-loop-r l = 8 - l.r
