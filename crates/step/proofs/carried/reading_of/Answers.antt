use mathlib.Core.Path.{◌∙◌}
use native.Mathlib.Omega.{arith}
use borrow.Author.Tests.{eq-eqb, ne_eqb}
use Rattle.packet.specs.Theorems.ByTable.{read_row_with_lem}
use Rattle.step.specs.Carried.{reading_in}
use Rattle.step.proofs.carried.reading_of.Goals as goal

pub returns-then-kind-eq-FIXED : goal.returns-then-kind-eq-FIXED
unfolding reading_in
returns-then-kind-eq-FIXED c = rw (eq-eqb _ 2 c.if-kind-eq-FIXED.true) c.read_fixed_nibbles.ensures

pub returns : goal.returns
unfolding reading_in
returns c =
    rw (ne_eqb _ 2 c.if-kind-eq-FIXED.false) (c.read_row.ensures ∙ read_row_with_lem c.share_table-table.ensures c.args.kind c.args.row (omega (arith, c.well_formed.1.0)))
