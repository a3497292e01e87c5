use Rattle.std.proofs.Common.{refl, eq-eqb, ne_eqb}
use Rattle.packet.specs.Kinds.{ends_epoch, frames}
use Rattle.packet.proofs.kinds.ends_epoch.Goals as goal

pub returns-then-kind-eq-VC12 : goal.returns-then-kind-eq-VC12
unfolding ends_epoch frames
returns-then-kind-eq-VC12 c = rw (eq-eqb _ 1 c.if-kind-eq-VC12.true) (refl)

pub returns : goal.returns
unfolding ends_epoch frames
returns c = rw (ne_eqb _ 1 c.if-kind-eq-VC12.false) (refl)
