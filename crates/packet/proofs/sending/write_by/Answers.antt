use Rattle.std.proofs.Common.{eq-eqb, ne_eqb}
use Rattle.packet.specs.Sent.{sent_answer, sent_bytes}
use Rattle.packet.proofs.sending.write_by.Goals as goal

pub returns-then-kind-eq-VC12 : goal.returns-then-kind-eq-VC12
unfolding sent_answer sent_bytes
returns-then-kind-eq-VC12 c = rw (eq-eqb _ 1 c.if-kind-eq-VC12.true) c.write_vc12.ensures

pub returns : goal.returns
unfolding sent_answer sent_bytes
returns c = rw (ne_eqb _ 1 c.if-kind-eq-VC12.false) c.write.ensures
