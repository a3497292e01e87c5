-- The invariant: the first r starts are in place.
use mathlib.Core.Path.{◌≡◌}
use Prim.Native.Nat.{◌≤◌, ◌-◌, ◌*◌}
use lib.ListN.{length}
use Rattle.ground.specs.Drawn.{Filling}
use Rattle.payload.proofs.work.all_starts.Given as goal

abbrev pub invariant-loop-r : goal.invariant-loop-r
invariant-loop-r l = (length l.initial.starts ≡ 64) × (l.r ≤ 64) × Filling 0 l.r (λ i. i * l.p) l.initial.starts l.starts

abbrev pub decreases-loop-r : goal.decreases-loop-r
decreases-loop-r l = 64 - l.r
