-- The call meets its contract: 9, 2 for a wait that is none, and then what applying answers; under 0 the board is written anew.
-- Each exit cites one law of Telling, in the order of the tests.
use mathlib.Core.Path.{◌∙◌, ap, refl, sym}
use Rattle.spoken.specs.Laws.Answers.{done_number, refused_number, told_done}
use Rattle.c_face.specs.Boards.{board_bytes_of}
use Rattle.c_cards.proofs.Telling.{applied_first, applied_refusal, applied_second, applied_told, applied_wait}
use Rattle.c_cards.proofs.changes.levelspruce_board_apply.Goals as goal

pub returns-then-board-ne-BOARD_BYTES : goal.returns-then-board-ne-BOARD_BYTES
returns-then-board-ne-BOARD_BYTES c = applied_first _ _ c.if-board-ne-BOARD_BYTES.true

pub returns-then-changes-ne-CHANGES_BYTES : goal.returns-then-changes-ne-CHANGES_BYTES
returns-then-changes-ne-CHANGES_BYTES c = applied_second _ _ c.if-board-ne-BOARD_BYTES.false c.if-changes-ne-CHANGES_BYTES.true

pub returns-then-changes-ge3 : goal.returns-then-changes-ge3
returns-then-changes-ge3 c =
    applied_wait _ _ c.if-board-ne-BOARD_BYTES.false c.if-changes-ne-CHANGES_BYTES.false c.if-changes-ge3.true

pub returns-in-Err : goal.returns-in-Err
returns-in-Err c =
    let f = rw (c.board_from-old.ensures, c.changes_from-told.ensures) at c.in-Err.ensures.told in
    let q = refused_number _ _ c.in-Err.refusal _ f c.number.ensures in
    applied_refusal _ _ c.if-board-ne-BOARD_BYTES.false c.if-changes-ne-CHANGES_BYTES.false c.if-changes-ge3.false _ q.0 q.1

pub returns-in-Ok : goal.returns-in-Ok
returns-in-Ok c =
    let f = rw (c.board_from-old.ensures, c.changes_from-told.ensures) at c.in-Ok.ensures.told in
    applied_told _ _ c.if-board-ne-BOARD_BYTES.false c.if-changes-ne-CHANGES_BYTES.false c.if-changes-ge3.false 0 (done_number _ _ _ f) _ refl
    (c.put_board.ensures ∙ ap board_bytes_of (sym (told_done _ _ _ f).1))
