use Rattle.std.proofs.Common.{refl, eq-eqb, ne_eqb}
use Rattle.packet.specs.Symbols.{entry_with}
use Rattle.packet.proofs.symbols.pair_with.Goals as goal

pub returns-then-place-eq0 : goal.returns-then-place-eq0
unfolding entry_with
returns-then-place-eq0 c = rw (eq-eqb _ 0 c.if-place-eq0.true) refl

pub returns : goal.returns
unfolding entry_with
returns c = rw (ne_eqb _ 0 c.if-place-eq0.false) refl
