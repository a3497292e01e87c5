-- `read_fixed_nibbles` meets its contract: another word than FIXED is refused, else number and epoch are put together of their nibbles.
use Rattle.std.proofs.Common.{refl, ne_eqb}
use Rattle.packet.specs.Fixed.{read_fixed_nibbles}
use Rattle.packet.proofs.Answers.{fixed_packet}
use Rattle.packet.proofs.fixed.read_fixed_nibbles.Goals as goal

pub returns-then-nibbles : goal.returns-then-nibbles
unfolding read_fixed_nibbles
returns-then-nibbles c = rw (ne_eqb _ 0 c.if-nibbles.true) refl

pub returns : goal.returns
returns c = fixed_packet c.args.nibbles _ _ _ c.if-nibbles.false c.byte_of-epoch.ensures c.byte_of-sq.ensures c.fixed_fields.ensures
