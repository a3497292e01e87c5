use Rattle.std.proofs.Common.{◌≤◌, length, refl, arith}
use Rattle.replay_lines.specs.Output.{answer_text}
use Rattle.replay_lines.specs.Turn.{answered_said, answered_turn}
use Rattle.replay_lines.proofs.Printing.{answer_le, put_over}
use Rattle.replay_lines.proofs.turns.answered.Goals as goal

pub put_answer-written-requires : goal.put_answer-written-requires
put_answer-written-requires c = let l = answer_le c.args.number c.next_line-line.result in omega arith

pub returns : goal.returns
unfolding answered_turn answered_said
returns c =
    let l = answer_le c.args.number c.next_line-line.result in
    let h : length (answer_text c.args.number c.next_line-line.result) ≤ length c.args.said.now = omega arith in
    let q = rw c.next_line-line.ensures at (put_over c.put_answer-written.ensures h) in
    rw (c.next_line-line.ensures, q.0, q.1) (refl, refl)
