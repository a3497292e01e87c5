-- The call meets its contract: 9 for each of two lengths, 2 for a wait that is none, then what speaking in runs answers; under 0 `written` is set.
-- Each exit cites one law of Telling, in the order of the tests.
use mathlib.Core.Path.{refl}
use Rattle.spoken.specs.Laws.Answers.{done_number, refused_number, told_done}
use Rattle.c_cards.proofs.Telling.{runs_first, runs_refusal, runs_second, runs_told, runs_wait}
use Rattle.c_cards.proofs.runs.levelspruce_board_speak_runs.Goals as goal

pub returns-then-changes-ne-CHANGES_BYTES : goal.returns-then-changes-ne-CHANGES_BYTES
returns-then-changes-ne-CHANGES_BYTES c = runs_first _ _ _ c.if-changes-ne-CHANGES_BYTES.true

pub returns-then-text-lt-SPEECH_ROOM : goal.returns-then-text-lt-SPEECH_ROOM
returns-then-text-lt-SPEECH_ROOM c = runs_second _ _ _ c.if-changes-ne-CHANGES_BYTES.false c.if-text-lt-SPEECH_ROOM.true

pub returns-then-changes-ge3 : goal.returns-then-changes-ge3
returns-then-changes-ge3 c =
    runs_wait _ _ _ c.if-changes-ne-CHANGES_BYTES.false c.if-text-lt-SPEECH_ROOM.false c.if-changes-ge3.true

pub returns-in-Err : goal.returns-in-Err
returns-in-Err c =
    let f = rw c.changes_from-told.ensures at c.in-Err.ensures.told in
    let q = refused_number _ _ c.in-Err.refusal _ f.0 c.number.ensures in
    runs_refusal _ _ _ c.if-changes-ne-CHANGES_BYTES.false c.if-text-lt-SPEECH_ROOM.false c.if-changes-ge3.false _ _ _ refl q.0 f.1 q.1

pub returns-in-Ok : goal.returns-in-Ok
returns-in-Ok c =
    let f = rw c.changes_from-told.ensures at c.in-Ok.ensures.told in
    rw (← (told_done _ _ _ f.0).1) (runs_told _ _ _ c.if-changes-ne-CHANGES_BYTES.false c.if-text-lt-SPEECH_ROOM.false c.if-changes-ge3.false _ _ _ refl (done_number _ _ _ f.0) f.1 refl)
