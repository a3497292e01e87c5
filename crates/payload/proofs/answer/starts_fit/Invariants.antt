-- The invariant: the starts of the ranks below r fit.
use Prim.Native.Nat.{◌≤◌, ◌-◌}
use mathlib.Core.Path.{◌≡◌}
use Rattle.payload.specs.Joining.{starts_fit}
use Rattle.payload.proofs.answer.starts_fit.Given as goal

abbrev pub invariant-loop-r : goal.invariant-loop-r
invariant-loop-r l = (l.r ≤ l.x) × (l.fit ≡ starts_fit l.r l.p l.starts l.store)

abbrev pub decreases-loop-r : goal.decreases-loop-r
decreases-loop-r l = l.x - l.r
