-- `put_output` meets its contract: the board's lines or the answer's line at the front of the buffer, which has room for either.
-- A board has at most 64 slots, so its text is no longer than ROOM; what `put_board` or `put_answer` put is then the definition's text.
use native.Mathlib.Omega.{arith}
use Rattle.session_lines.proofs.Answering.{board_count, output_board, output_answer}
use Rattle.session_lines.proofs.Lengths.{answer_le}
use Rattle.session_lines.proofs.session.put_output.Goals as goal

pub put_board-requires : goal.put_board-requires
put_board-requires c =
    (rw c.board_of.ensures (board_count c.args.table), c.requires.0)

pub returns-then-is_board : goal.returns-then-is_board
returns-then-is_board c =
    output_board c.args.table c.args.line c.args.out.now _ _ c.is_board.result c.requires.0 c.is_board.ensures c.if-is_board.true c.board_of.result c.board_of.ensures c.put_board.ensures

pub put_answer-requires : goal.put_answer-requires
put_answer-requires c =
    let k = answer_le c.args.number in let h = c.requires.0 in omega arith

pub returns : goal.returns
returns c =
    output_answer c.args.table c.args.line c.args.out.now _ _ c.is_board.result c.requires.0 c.is_board.ensures c.if-is_board.false c.args.number c.requires.1 c.put_answer.ensures
