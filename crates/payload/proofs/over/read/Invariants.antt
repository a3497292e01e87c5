-- The invariant: the first l lines are read, and the next one begins where the place has run to.
use mathlib.Core.Path.{◌≡◌}
use Prim.Native.Nat.{◌≤◌, ◌+◌, ◌-◌, ◌*◌, ◌%◌}
use Rattle.payload.specs.Inner.Block.{Rows}
use Rattle.payload.specs.Joining.{ranked_byte}
use Rattle.payload.proofs.over.read.Given as goal

abbrev pub invariant-loop-l : goal.invariant-loop-l
invariant-loop-l l = (l.l ≤ 16) × (l.l % 2 ≡ 0) × (l.from ≡ (l.r + l.l) * l.x) × Rows l.l 8 (ranked_byte l.x l.frame) l.r 0 l.initial.q l.q

abbrev pub decreases-loop-l : goal.decreases-loop-l
decreases-loop-l l = 16 - l.l
