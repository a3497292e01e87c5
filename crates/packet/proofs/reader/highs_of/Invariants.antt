-- The invariant: the first nibbles are written.
use Rattle.std.proofs.Common.{◌/◌, get_or}
use Rattle.ground.specs.Drawn.{Filling}
use Rattle.packet.proofs.reader.highs_of.Given as goal

abbrev pub invariant-loop-place : goal.invariant-loop-place
invariant-loop-place l = Filling 0 l.place (λ i. get_or l.h4 i 0 / 16) l.initial.nibble-items l.nibble-items
