use Rattle.packet.specs.Fixed.{fixed_ruling_of}
use Rattle.packet.proofs.fixed.fixed_ruling_of.Goals as goal

pub returns : goal.returns
unfolding fixed_ruling_of
returns c = rw (← c.read_fixed_nibbles.ensures) c.ruling_by.ensures
