use Rattle.std.proofs.Common.{refl, eq-eqb, ne_eqb}
use Rattle.packet.specs.Kinds.{epochs_in, frames, epochs}
use Rattle.packet.proofs.kinds.epochs_in.Goals as goal

pub returns-then-kind-eq-VC12 : goal.returns-then-kind-eq-VC12
unfolding epochs_in frames epochs
returns-then-kind-eq-VC12 c = rw (eq-eqb _ 1 c.if-kind-eq-VC12.true) (refl)

pub returns : goal.returns
unfolding epochs_in frames epochs
returns c = rw (ne_eqb _ 1 c.if-kind-eq-VC12.false) (refl)
