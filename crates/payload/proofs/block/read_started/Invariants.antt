-- The invariant: the first l rows are read.
use Prim.Native.Nat.{◌≤◌, ◌-◌}
use Rattle.payload.specs.Inner.Block.{Rows}
use Rattle.payload.specs.Joining.{started_byte}
use Rattle.payload.proofs.block.read_started.Given as goal

abbrev pub invariant-loop-l : goal.invariant-loop-l
invariant-loop-l l = (l.l ≤ l.h) × Rows l.l l.w (started_byte l.starts l.store) l.r l.j l.initial.q l.q

abbrev pub decreases-loop-l : goal.decreases-loop-l
decreases-loop-l l = l.h - l.l
