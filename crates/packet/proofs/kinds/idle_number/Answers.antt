use Rattle.std.proofs.Common.{refl, eq-eqb, ne_eqb}
use Rattle.packet.specs.Kinds.{idle_number}
use Rattle.packet.proofs.kinds.idle_number.Goals as goal

pub returns-then-kind-eq-VC12 : goal.returns-then-kind-eq-VC12
unfolding idle_number
returns-then-kind-eq-VC12 c = rw (eq-eqb _ 1 c.if-kind-eq-VC12.true) (refl)

pub returns : goal.returns
unfolding idle_number
returns c = rw (ne_eqb _ 1 c.if-kind-eq-VC12.false) (refl)
