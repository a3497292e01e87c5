-- The invariant: the first j bytes are zero.
use Prim.Native.Nat.{◌≤◌, ◌-◌}
use lib.ListN.{length}
use Rattle.ground.specs.Drawn.{Filling}
use Rattle.payload.proofs.plain.clear.Given as goal

abbrev pub invariant-loop-j : goal.invariant-loop-j
invariant-loop-j l = (l.j ≤ length l.initial.to) × Filling 0 l.j (λ i. 0) l.initial.to l.to

abbrev pub decreases-loop-j : goal.decreases-loop-j
decreases-loop-j l = length l.initial.to - l.j
