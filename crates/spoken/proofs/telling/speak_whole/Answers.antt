-- Refused, or the lines of the board's slots in runs, which have room, and that of the wait behind them.
use Rattle.std.specs.Prelude.{Bool}
use Rattle.std.proofs.Common.{◌≡◌, ◌∙◌, arith, sym, true}
use Rattle.std.proofs.lemmas.Result.{err_from_is_err_and}
use Rattle.text.specs.Laws.Putting.{put_then}
use Rattle.sender.specs.declared.board.Board.{Board}
use Rattle.spoken.specs.SpeakingRuns.{can_speak_whole, slots_speak, whole_answer, whole_speech_bytes, whole_speech_of, whole_text}
use Rattle.spoken.proofs.InRuns.{runs_standing, still_behind, whole_room, whole_text_le}
use Rattle.spoken.specs.Theorems.NothingLost.{length_left, whole_speech_known}
use Rattle.spoken.proofs.Ready.{is_done, is_ready, is_refused, is_unfit}
use Rattle.spoken.proofs.telling.speak_whole.Goals as goal

pub returns-in_err-check_room-clause-told : goal.returns-in_err-check_room-clause-told
unfolding whole_speech_of whole_speech_bytes whole_answer can_speak_whole
returns-in_err-check_room-clause-told c =
    let p = err_from_is_err_and c.from_residual.result c.from_residual.ensures.1 in
    rw (p.1, p.2) (is_refused (can_speak_whole c.args.board) (whole_text c.args.board) c.args.out.now _ c.in_err-check_room.ensures)

pub returns-then-not-slots_speak-clause-told : goal.returns-then-not-slots_speak-clause-told
unfolding whole_speech_of whole_speech_bytes whole_answer can_speak_whole
returns-then-not-slots_speak-clause-told c =
    is_unfit (can_speak_whole c.args.board) (whole_text c.args.board) c.args.out.now c.in_ok-check_room.ensures (sym c.slots_speak.ensures ∙ c.if-not-slots_speak.true)

can : (b : Board) {test : Bool} → test ≡ slots_speak b.rows b.count → test ≡ true → can_speak_whole b ≡ true
unfolding can_speak_whole
can b e t = sym e ∙ t

pub put_runs-next-requires : goal.put_runs-next-requires
put_runs-next-requires c =
    let h = is_ready c.args.out.now c.in_ok-check_room.ensures in
    let r = whole_room c.args.board (can c.args.board c.slots_speak.ensures c.if-not-slots_speak.false) in
    rw (runs_standing c.args.board _ _ c.from.ensures c.standing_in-list.ensures) (omega arith)

pub put_still-requires : goal.put_still-requires
put_still-requires c =
    still_behind c.args.board (can c.args.board c.slots_speak.ensures c.if-not-slots_speak.false) (is_ready c.args.out.now c.in_ok-check_room.ensures)
    (rw (runs_standing c.args.board _ _ c.from.ensures c.standing_in-list.ensures) at c.put_runs-next.ensures)

pub returns-clause-told : goal.returns-clause-told
unfolding whole_speech_of whole_speech_bytes whole_answer whole_text
returns-clause-told c =
    let h = is_ready c.args.out.now c.in_ok-check_room.ensures in
    let e = can c.args.board c.slots_speak.ensures c.if-not-slots_speak.false in
    let l = whole_text_le c.args.board e in
    is_done (can_speak_whole c.args.board) (whole_text c.args.board) c.args.out.now _ _ c.in_ok-check_room.ensures e
    (put_then (rw (runs_standing c.args.board _ _ c.from.ensures c.standing_in-list.ensures) at c.put_runs-next.ensures) c.put_still.ensures) (omega arith)

pub returns-in_err-check_room-clause-left : goal.returns-in_err-check_room-clause-left
returns-in_err-check_room-clause-left c = length_left (returns-in_err-check_room-clause-told c).0 (whole_speech_known c.args.out.now c.args.board)

pub returns-then-not-slots_speak-clause-left : goal.returns-then-not-slots_speak-clause-left
returns-then-not-slots_speak-clause-left c = length_left (returns-then-not-slots_speak-clause-told c).0 (whole_speech_known c.args.out.now c.args.board)

pub returns-clause-left : goal.returns-clause-left
returns-clause-left c = length_left (returns-clause-told c).0 (whole_speech_known c.args.out.now c.args.board)
