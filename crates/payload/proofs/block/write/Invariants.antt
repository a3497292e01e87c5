-- The invariant: the first i lines of the block are in their lines of the frame.
use Prim.Native.Nat.{◌≤◌, ◌-◌}
use Rattle.ground.specs.Drawn.{Drawing}
use Rattle.payload.specs.Inner.Area.{area}
use Rattle.payload.specs.Inner.Block.{line_byte}
use Rattle.payload.proofs.block.write.Given as goal

abbrev pub invariant-loop-i : goal.invariant-loop-i
invariant-loop-i l = (l.i ≤ l.w) × Drawing (area l.x l.place l.j l.i l.r l.h) (line_byte l.h l.x l.place l.j l.r l.q) l.initial.out l.out

abbrev pub decreases-loop-i : goal.decreases-loop-i
decreases-loop-i l = l.w - l.i
