use Rattle.std.proofs.Common.{refl}
use Rattle.packet.specs.Fixed.{fixed_nibbles, fixed_nibbles_with}
use Rattle.packet.proofs.fixed.fixed_nibbles.Goals as goal

pub returns : goal.returns
unfolding fixed_nibbles fixed_nibbles_with
returns c = refl
