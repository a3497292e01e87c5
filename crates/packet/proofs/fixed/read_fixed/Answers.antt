use Rattle.std.proofs.Common.{refl, eq-eqb, ne_eqb}
use Rattle.packet.specs.Fixed.{read_fixed_answer}
use Rattle.packet.proofs.fixed.read_fixed.Goals as goal

pub returns-then-h4-ne16 : goal.returns-then-h4-ne16
unfolding read_fixed_answer
returns-then-h4-ne16 c = rw (ne_eqb _ 16 c.if-h4-ne16.true) refl

pub returns : goal.returns
unfolding read_fixed_answer
returns c = rw (eq-eqb _ 16 c.if-h4-ne16.false, ← c.highs_of.ensures) c.read_fixed_nibbles.ensures
