use Rattle.std.proofs.Common.{eq-eqb, ne_eqb}
use Rattle.packet.specs.ByTable.{read_row_with}
use Rattle.packet.proofs.ruling.read_row.Goals as goal

pub returns-then-kind-eq-VC12 : goal.returns-then-kind-eq-VC12
unfolding read_row_with
returns-then-kind-eq-VC12 c = rw (eq-eqb _ 1 c.if-kind-eq-VC12.true) c.read_vc12_row.ensures

pub returns : goal.returns
unfolding read_row_with
returns c = rw (ne_eqb _ 1 c.if-kind-eq-VC12.false) c.read_nibbles.ensures
