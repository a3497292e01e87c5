use Rattle.std.proofs.Common.{arith, eq-eqb, ne_eqb}
use Rattle.packet.specs.Kinds.{mst_epochs, mst_first}
use Rattle.packet.proofs.kinds.mst_first.Goals as goal

pub returns-then-kind-eq-VC12 : goal.returns-then-kind-eq-VC12
unfolding mst_first mst_epochs
returns-then-kind-eq-VC12 c = rw (eq-eqb _ 1 c.if-kind-eq-VC12.true) (omega arith)

pub returns : goal.returns
unfolding mst_first mst_epochs
returns c = rw (ne_eqb _ 1 c.if-kind-eq-VC12.false) (omega arith)
