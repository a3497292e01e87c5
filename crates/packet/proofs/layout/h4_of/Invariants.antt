-- The invariant: the first bytes are written.
use Rattle.std.proofs.Common.{◌+◌, ◌*◌, ◌%◌, get_or}
use Rattle.ground.specs.Drawn.{Filling}
use Rattle.packet.proofs.layout.h4_of.Given as goal

abbrev pub invariant-loop-place : goal.invariant-loop-place
invariant-loop-place l = Filling 0 l.place (λ i. get_or l.nibbles i 0 % 16 * 16 + (i + 8) % 16) l.initial.byte-items l.byte-items
