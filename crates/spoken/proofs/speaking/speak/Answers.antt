-- Changes that can be spoken are at most 64, of slots below 64, so that their lines have room; the wait's line is put behind them.
use Rattle.std.proofs.Common.{◌≡◌, ◌∙◌, ◌≤◌, ◌<◌, ℕ, ap, arith, length, length-take, sym, true}
use Rattle.std.proofs.lemmas.Result.{err_from_is_err_and}
use Rattle.text.specs.Laws.Putting.{put_then}
use Rattle.spoken.specs.Applying.{change_in}
use Rattle.spoken.specs.Speaking.{SPEECH-ROOM, can_speak, speak_answer, speech_bytes, speech_of, spoken_text}
use Rattle.spoken.proofs.Fitting.{taken_slots}
use Rattle.spoken.proofs.Ready.{is_done, is_ready, is_refused, is_unfit}
use Rattle.spoken.specs.Theorems.NothingLost.{length_left, speech_whole}
use Rattle.spoken.proofs.Saying.{can_count, can_slots, lines_taken, said_le, wait_room}
use Rattle.spoken.proofs.speaking.speak.Goals as goal
use Rattle.spoken.proofs.speaking.speak.Goals.{After-as_slice}

pub returns-in_err-check_room-clause-told : goal.returns-in_err-check_room-clause-told
unfolding speech_of speech_bytes speak_answer
returns-in_err-check_room-clause-told c =
    let p = err_from_is_err_and c.from_residual.result c.from_residual.ensures.1 in
    rw (p.1, p.2) (is_refused (can_speak c.args.changes) (spoken_text c.args.changes) c.args.out.now _ c.in_err-check_room.ensures)

pub returns-then-not-can_speak-clause-told : goal.returns-then-not-can_speak-clause-told
unfolding speech_of speech_bytes speak_answer
returns-then-not-can_speak-clause-told c =
    is_unfit (can_speak c.args.changes) (spoken_text c.args.changes) c.args.out.now c.in_ok-check_room.ensures (sym c.can_speak.ensures ∙ c.if-not-can_speak.true)

ready : (c : After-as_slice) → (SPEECH-ROOM ≤ length c.args.out.now) × (can_speak c.args.changes ≡ true)
ready c = (is_ready c.args.out.now c.in_ok-check_room.ensures, sym c.can_speak.ensures ∙ c.if-not-can_speak.false)

slots : (c : After-as_slice) → (k : ℕ) → k < length c.as_slice.result.now → (change_in c.as_slice.result.now k).slot < 64
slots c = taken_slots c.args.changes.list c.args.changes.count c.as_slice.result.now c.as_slice.ensures (can_slots c.args.changes (ready c).1)

pub put_changes-next-requires-clause-slots : goal.put_changes-next-requires-clause-slots
put_changes-next-requires-clause-slots c = slots (goal.at.put_changes-next-requires-clause-slots c).After-as_slice

pub put_wait-requires : goal.put_wait-requires
put_wait-requires c =
    let a = (goal.at.put_wait-requires c).After-as_slice in
    let m = can_count c.args.changes (ready a).1 in
    let t = ap length c.as_slice.ensures ∙ length-take c.args.changes.count c.args.changes.list in
    wait_room c.as_slice.result.now (length c.as_slice.result.now) (ready a).0 c.put_changes-next.ensures (omega arith) (slots a) _

pub returns-clause-told : goal.returns-clause-told
unfolding speech_of speech_bytes speak_answer spoken_text
returns-clause-told c =
    let a = (goal.at.returns-clause-told c).After-as_slice in
    let l : length c.args.changes.list ≡ 64 = omega arith in
    let e = lines_taken c.args.changes c.as_slice.result.now (can_count c.args.changes (ready a).1) l c.as_slice.ensures in
    let r = (ready a).0 in
    let s = said_le c.args.changes (ready a).1 in
    is_done (can_speak c.args.changes) (spoken_text c.args.changes) c.args.out.now _ _ c.in_ok-check_room.ensures (ready a).1
    (put_then (rw e at c.put_changes-next.ensures) c.put_wait.ensures) (omega arith)

pub returns-in_err-check_room-clause-left : goal.returns-in_err-check_room-clause-left
returns-in_err-check_room-clause-left c = length_left (returns-in_err-check_room-clause-told c).0 (speech_whole c.args.out.now c.args.changes)

pub returns-then-not-can_speak-clause-left : goal.returns-then-not-can_speak-clause-left
returns-then-not-can_speak-clause-left c = length_left (returns-then-not-can_speak-clause-told c).0 (speech_whole c.args.out.now c.args.changes)

pub returns-clause-left : goal.returns-clause-left
returns-clause-left c = length_left (returns-clause-told c).0 (speech_whole c.args.out.now c.args.changes)
