-- The call meets its contract: 9 for each of three lengths, 4 for boards of different counts, and then the changes.
-- Each exit cites one law of Telling, in the order of the tests.
use mathlib.Core.Path.{◌∙◌, ap, refl, sym}
use Rattle.spoken.specs.Laws.Answers.{done_number, refused_number, told_done}
use Rattle.c_cards.specs.Changes.{changes_bytes_of}
use Rattle.c_cards.proofs.Telling.{compared_first, compared_refusal, compared_second, compared_third, compared_told}
use Rattle.c_cards.proofs.changes.levelspruce_board_changes.Goals as goal

pub returns-then-before-ne-BOARD_BYTES : goal.returns-then-before-ne-BOARD_BYTES
returns-then-before-ne-BOARD_BYTES c = compared_first _ _ _ c.if-before-ne-BOARD_BYTES.true

pub returns-then-after-ne-BOARD_BYTES : goal.returns-then-after-ne-BOARD_BYTES
returns-then-after-ne-BOARD_BYTES c = compared_second _ _ _ c.if-before-ne-BOARD_BYTES.false c.if-after-ne-BOARD_BYTES.true

pub returns-then-changes-ne-CHANGES_BYTES : goal.returns-then-changes-ne-CHANGES_BYTES
returns-then-changes-ne-CHANGES_BYTES c =
    compared_third _ _ _ c.if-before-ne-BOARD_BYTES.false c.if-after-ne-BOARD_BYTES.false c.if-changes-ne-CHANGES_BYTES.true

pub returns-in-Err : goal.returns-in-Err
returns-in-Err c =
    let f = rw (c.board_from-old.ensures, c.board_from-new.ensures) at c.in-Err.ensures.told in
    let q = refused_number _ _ c.in-Err.refusal _ f c.number.ensures in
    compared_refusal _ _ _ c.if-before-ne-BOARD_BYTES.false c.if-after-ne-BOARD_BYTES.false c.if-changes-ne-CHANGES_BYTES.false _ q.0 q.1

pub returns-in-Ok : goal.returns-in-Ok
returns-in-Ok c =
    let f = rw (c.board_from-old.ensures, c.board_from-new.ensures) at c.in-Ok.ensures.told in
    compared_told _ _ _ c.if-before-ne-BOARD_BYTES.false c.if-after-ne-BOARD_BYTES.false c.if-changes-ne-CHANGES_BYTES.false 0 (done_number _ _ _ f) _ refl
    (c.put_changes.ensures ∙ ap changes_bytes_of (sym (told_done _ _ _ f).1))
