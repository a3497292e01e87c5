use Rattle.std.proofs.Common.{arith, eq-eqb, ne_eqb}
use Rattle.packet.specs.Kinds.{epoch_of, frames, tags, lead}
use Rattle.packet.proofs.kinds.epoch_of.Goals as goal

pub returns-then-kind-eq-VC12 : goal.returns-then-kind-eq-VC12
unfolding epoch_of frames tags lead
returns-then-kind-eq-VC12 c = rw (eq-eqb _ 1 c.if-kind-eq-VC12.true) (omega arith)

pub returns : goal.returns
unfolding epoch_of frames tags lead
returns c = rw (ne_eqb _ 1 c.if-kind-eq-VC12.false) (omega arith)
