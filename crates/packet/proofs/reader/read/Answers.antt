-- `read` meets its contract: 9, and else what its high nibbles read as. They are read as the eight bytes that they make (`by_bytes`).
use Rattle.std.proofs.Common.{◌≡◌, length, refl, ◌∙◌, arith, eq-eqb, ne_eqb}
use Rattle.packet.specs.Layout.{highs_of}
use Rattle.packet.specs.Reading.{read_answer}
use Rattle.packet.specs.Theorems.ByTable.{read_nibbles_with_lem}
use Rattle.packet.proofs.Eight.{by_bytes}
use Rattle.packet.proofs.reader.read.Goals as goal

pub returns-then-h4-ne16 : goal.returns-then-h4-ne16
unfolding read_answer
returns-then-h4-ne16 c = rw (ne_eqb _ 16 c.if-h4-ne16.true) refl

pub returns : goal.returns
unfolding read_answer highs_of
returns c =
    let sized : length (highs_of c.args.h4.now) ≡ 16 = refl in
    rw (eq-eqb _ 16 c.if-h4-ne16.false)
    (c.read_bytes.ensures
    ∙ by_bytes _ (highs_of c.args.h4.now) _ _ _ _ _ _ _ _
    c.byte_of.ensures
    c.byte_of-2.ensures
    c.byte_of-3.ensures
    c.byte_of-4.ensures
    c.byte_of-5.ensures
    c.byte_of-6.ensures
    c.byte_of-7.ensures
    c.byte_of-8.ensures
    ∙ read_nibbles_with_lem c.share_table-table.ensures (highs_of c.args.h4.now) (omega arith))
