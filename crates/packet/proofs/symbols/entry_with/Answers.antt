use Rattle.std.proofs.Common.{refl, ◌∙◌, eq-eqb, ne_eqb}
use Rattle.packet.specs.Symbols.{entry_with}
use Rattle.packet.proofs.symbols.entry_with.Goals as goal

pub returns-then-kind-eq-VC12 : goal.returns-then-kind-eq-VC12
unfolding entry_with
returns-then-kind-eq-VC12 c = c.pair_with.ensures ∙ rw (eq-eqb _ 1 c.if-kind-eq-VC12.true) refl

pub returns : goal.returns
unfolding entry_with
returns c = rw (ne_eqb _ 1 c.if-kind-eq-VC12.false) refl
