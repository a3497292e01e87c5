-- Refused as one line a slot is; else the lines of the runs, which have room, and that of the wait behind them.
use Rattle.std.proofs.Common.{◌≡◌, ◌∙◌, ◌≤◌, arith, length, sym, true}
use Rattle.std.proofs.lemmas.Result.{err_from_is_err_and}
use Rattle.text.specs.Laws.Putting.{put_then}
use Rattle.spoken.specs.Speaking.{SPEECH-ROOM, can_speak, speak_answer}
use Rattle.spoken.specs.SpeakingRuns.{runs_speech_bytes, runs_speech_of, runs_text}
use Rattle.spoken.proofs.InRuns.{runs_room, runs_taken, runs_text_le, wait_behind}
use Rattle.spoken.specs.Theorems.NothingLost.{length_left, runs_speech_whole}
use Rattle.spoken.proofs.Ready.{is_done, is_ready, is_refused, is_unfit}
use Rattle.spoken.proofs.telling.speak_runs.Goals as goal
use Rattle.spoken.proofs.telling.speak_runs.Goals.{After-as_slice}

pub returns-in_err-check_room-clause-told : goal.returns-in_err-check_room-clause-told
unfolding runs_speech_of runs_speech_bytes speak_answer
returns-in_err-check_room-clause-told c =
    let p = err_from_is_err_and c.from_residual.result c.from_residual.ensures.1 in
    rw (p.1, p.2) (is_refused (can_speak c.args.changes) (runs_text c.args.changes) c.args.out.now _ c.in_err-check_room.ensures)

pub returns-then-not-can_speak-clause-told : goal.returns-then-not-can_speak-clause-told
unfolding runs_speech_of runs_speech_bytes speak_answer
returns-then-not-can_speak-clause-told c =
    is_unfit (can_speak c.args.changes) (runs_text c.args.changes) c.args.out.now c.in_ok-check_room.ensures (sym c.can_speak.ensures ∙ c.if-not-can_speak.true)

ready : (c : After-as_slice) → (SPEECH-ROOM ≤ length c.args.out.now) × (can_speak c.args.changes ≡ true)
ready c = (is_ready c.args.out.now c.in_ok-check_room.ensures, sym c.can_speak.ensures ∙ c.if-not-can_speak.false)

pub put_runs-next-requires : goal.put_runs-next-requires
put_runs-next-requires c =
    let d = ready (goal.at.put_runs-next-requires c).After-as_slice in
    let h = d.0 in
    let r = runs_room c.args.changes d.1 in
    rw (runs_taken _ c.args.changes.list c.args.changes.count _ c.as_slice.ensures) (omega arith)

pub put_wait-requires : goal.put_wait-requires
put_wait-requires c =
    let d = ready (goal.at.put_wait-requires c).After-as_slice in
    wait_behind c.args.changes d.1 d.0 (rw (runs_taken _ c.args.changes.list c.args.changes.count _ c.as_slice.ensures) at c.put_runs-next.ensures)

pub returns-clause-told : goal.returns-clause-told
unfolding runs_speech_of runs_speech_bytes speak_answer runs_text
returns-clause-told c =
    let d = ready (goal.at.returns-clause-told c).After-as_slice in
    let h = d.0 in
    let l = runs_text_le c.args.changes d.1 in
    is_done (can_speak c.args.changes) (runs_text c.args.changes) c.args.out.now _ _ c.in_ok-check_room.ensures d.1
    (put_then (rw (runs_taken _ c.args.changes.list c.args.changes.count _ c.as_slice.ensures) at c.put_runs-next.ensures) c.put_wait.ensures) (omega arith)

pub returns-in_err-check_room-clause-left : goal.returns-in_err-check_room-clause-left
returns-in_err-check_room-clause-left c = length_left (returns-in_err-check_room-clause-told c).0 (runs_speech_whole c.args.out.now c.args.changes)

pub returns-then-not-can_speak-clause-left : goal.returns-then-not-can_speak-clause-left
returns-then-not-can_speak-clause-left c = length_left (returns-then-not-can_speak-clause-told c).0 (runs_speech_whole c.args.out.now c.args.changes)

pub returns-clause-left : goal.returns-clause-left
returns-clause-left c = length_left (returns-clause-told c).0 (runs_speech_whole c.args.out.now c.args.changes)
