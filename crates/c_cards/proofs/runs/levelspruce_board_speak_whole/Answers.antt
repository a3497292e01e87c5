-- The call meets its contract: 9 for each of two lengths, and then what speaking the board answers; under 0 `written` is set.
-- Each exit cites one law of WholeBoards, in the order of the tests.
use mathlib.Core.Path.{refl}
use Rattle.spoken.specs.Laws.Answers.{done_number, refused_number, told_done}
use Rattle.c_cards.proofs.WholeBoards.{whole_first, whole_refusal, whole_second, whole_told}
use Rattle.c_cards.proofs.runs.levelspruce_board_speak_whole.Goals as goal

pub returns-then-board-ne-BOARD_BYTES : goal.returns-then-board-ne-BOARD_BYTES
returns-then-board-ne-BOARD_BYTES c = whole_first _ _ _ c.if-board-ne-BOARD_BYTES.true

pub returns-then-text-lt-SPEECH_ROOM : goal.returns-then-text-lt-SPEECH_ROOM
returns-then-text-lt-SPEECH_ROOM c = whole_second _ _ _ c.if-board-ne-BOARD_BYTES.false c.if-text-lt-SPEECH_ROOM.true

pub returns-in-Err : goal.returns-in-Err
returns-in-Err c =
    let f = rw c.board_from-shown.ensures at c.in-Err.ensures.told in
    let q = refused_number _ _ c.in-Err.refusal _ f.0 c.number.ensures in
    whole_refusal _ _ _ c.if-board-ne-BOARD_BYTES.false c.if-text-lt-SPEECH_ROOM.false _ _ _ refl q.0 f.1 q.1

pub returns-in-Ok : goal.returns-in-Ok
returns-in-Ok c =
    let f = rw c.board_from-shown.ensures at c.in-Ok.ensures.told in
    rw (← (told_done _ _ _ f.0).1) (whole_told _ _ _ c.if-board-ne-BOARD_BYTES.false c.if-text-lt-SPEECH_ROOM.false _ _ _ refl (done_number _ _ _ f.0) f.1 refl)
