use Rattle.std.proofs.Common.{arith, eq-eqb, ne_eqb}
use Rattle.packet.specs.Kinds.{tag_after, tags}
use Rattle.packet.proofs.kinds.next_tag.Goals as goal

pub returns-then-kind-eq-VC12 : goal.returns-then-kind-eq-VC12
unfolding tag_after tags
returns-then-kind-eq-VC12 c = rw (eq-eqb _ 1 c.if-kind-eq-VC12.true) (omega arith)

pub returns : goal.returns
unfolding tag_after tags
returns c = rw (ne_eqb _ 1 c.if-kind-eq-VC12.false) (omega arith)
