-- The invariant: the first bytes are written.
use Rattle.ground.specs.Bits.{bits}
use Rattle.ground.specs.Drawn.{Filling}
use Rattle.packet.specs.Vc12.{frame_byte}
use Rattle.packet.proofs.vc12.put_bytes.Given as goal

abbrev pub invariant-loop-place : goal.invariant-loop-place
invariant-loop-place l = Filling 0 l.place (frame_byte (bits 32 l.number)) l.initial.frames l.frames
