-- Where the line has the length and the tabs of a frame's, what is read without a search is what the line says.
use Rattle.std.proofs.Common.{ℕ, ◌+◌, ◌≤◌, arith, ap, ◌∙◌, sym}
use Rattle.recording.specs.Laws.Here.{here_is, piece_within}
use Rattle.recording.specs.Record.{is_frame}
use Rattle.text.specs.Text.{TAB}
use Rattle.recording.proofs.record.frame_here.Goals as goal
use Rattle.recording.proofs.record.frame_here.Goals.{in-Frame, in_default}

pub overflow_add-end : goal.overflow_add-end
overflow_add-end c =
    let w = piece_within TAB c.args.text.now c.args.at (c.args.at + 10) (omega arith) in
    omega arith

pub overflow_add-end-2 : goal.overflow_add-end-2
overflow_add-end-2 c =
    let w = piece_within TAB c.args.text.now c.args.at (c.args.at + 10) (omega arith) in
    omega arith

pub returns : goal.returns
returns c =
    let e = c.frame_behind-found.ensures in
    let h : c.args.at ≤ c.piece_end-first.result = omega arith in
    let w = ap (λ (n : ℕ). c.piece_end-first.result + 6 + n) c.digits_of.ensures in
    elim c.match-matches.branch [
      | in-Frame w' ↦ rw (c.then_some.ensures, w'.matches-is) (e ∙ here_is c.args.ports c.args.size c.args.text.now c.args.at c.piece_end-first.result (c.piece_end-first.result + 6 + c.digits_of.result) h w c.if-text-end.false c.if-end-at-gt-MOST.false (sym c.is_parted.ensures ∙ c.if-not-is_parted.false) (ap is_frame (sym e ∙ w'.in-Frame.is)))
      | in_default w' ↦ rw (c.then_some.ensures, w'.matches-is) tt
    ]
