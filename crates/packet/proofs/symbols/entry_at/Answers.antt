use Rattle.std.proofs.Common.{refl, eq-eqb, ne_eqb}
use Rattle.packet.specs.Symbols.{entry_at}
use Rattle.packet.proofs.symbols.entry_at.Goals as goal

pub returns-then-kind-eq-VC12 : goal.returns-then-kind-eq-VC12
unfolding entry_at
returns-then-kind-eq-VC12 c = rw (eq-eqb _ 1 c.if-kind-eq-VC12.true) refl

pub returns : goal.returns
unfolding entry_at
returns c = rw (ne_eqb _ 1 c.if-kind-eq-VC12.false) refl
