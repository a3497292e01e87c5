-- The board told and the changes, each of its length, then what comparing answers; under 0 both are written.
-- Each exit cites one law of Tells, in the order of the tests.
use mathlib.Core.Path.{◌∙◌, ap, refl, sym}
use Rattle.spoken.specs.Laws.Answers.{done_number, refused_number, told_done}
use Rattle.c_cards.specs.Changes.{changes_bytes_of}
use Rattle.c_cards.proofs.Tells.{tell_done, tell_first, tell_refusal, tell_second}
use Rattle.c_cards.proofs.going.tell.Goals as goal

pub returns-then-told-ne-BOARD_BYTES : goal.returns-then-told-ne-BOARD_BYTES
returns-then-told-ne-BOARD_BYTES c = tell_first _ _ _ c.if-told-ne-BOARD_BYTES.true

pub returns-then-changes-ne-CHANGES_BYTES : goal.returns-then-changes-ne-CHANGES_BYTES
returns-then-changes-ne-CHANGES_BYTES c = tell_second _ _ _ c.if-told-ne-BOARD_BYTES.false c.if-changes-ne-CHANGES_BYTES.true

pub returns-in-Err : goal.returns-in-Err
returns-in-Err c =
    let f = rw c.board_from-old.ensures at c.in-Err.ensures.told in
    let q = refused_number _ _ c.in-Err.refusal _ f c.number.ensures in
    tell_refusal _ _ _ c.if-told-ne-BOARD_BYTES.false c.if-changes-ne-CHANGES_BYTES.false _ refl _ q.0 q.1

pub returns-in-Ok : goal.returns-in-Ok
returns-in-Ok c =
    let f = rw c.board_from-old.ensures at c.in-Ok.ensures.told in
    tell_done _ _ _ c.if-told-ne-BOARD_BYTES.false c.if-changes-ne-CHANGES_BYTES.false _ refl 0 (done_number _ _ _ f) _ _ refl c.put_board.ensures
    (c.put_changes.ensures ∙ ap changes_bytes_of (sym (told_done _ _ _ f).1))
