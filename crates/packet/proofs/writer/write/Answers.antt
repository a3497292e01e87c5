-- `write` meets its contract: 9, 8, and under 0 the sixteen H4 bytes. Each exit cites one law of Answers over plain numbers, in the order of the tests.
use Rattle.std.proofs.Common.{sym, ◌∙◌}
use Rattle.packet.specs.Laws.Bounds.{bounds}
use Rattle.packet.specs.Writing.{fitting}
use Rattle.packet.proofs.Answers.{write_length, write_field, write_done}
use Rattle.packet.proofs.writer.write.Goals as goal

pub returns-then-h4-ne16 : goal.returns-then-h4-ne16
returns-then-h4-ne16 c = write_length _ _ c.if-h4-ne16.true

pub returns-then-not-fits_within : goal.returns-then-not-fits_within
unfolding fitting
returns-then-not-fits_within c = write_field _ _ c.if-h4-ne16.false (sym c.fits_within.ensures ∙ c.if-not-fits_within.true)

pub nibbles_of-requires : goal.nibbles_of-requires
unfolding fitting
nibbles_of-requires c =
    (c.share_table-table.ensures, bounds _ (sym c.fits_within.ensures ∙ c.if-not-fits_within.false))

pub returns : goal.returns
unfolding fitting
returns c =
    write_done _ _ c.if-h4-ne16.false (sym c.fits_within.ensures ∙ c.if-not-fits_within.false) _ _ _
    c.nibbles_of.ensures c.h4_of.ensures c.copy_from_slice.ensures.after
