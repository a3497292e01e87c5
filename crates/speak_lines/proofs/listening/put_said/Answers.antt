-- Three exits are the three cases of the definition: the board (`said_board`), a line done (`said_done`), and a line refused (`said_refused`).
use Rattle.speak_lines.proofs.Answering.{said_board, said_done, said_refused}
use Rattle.speak_lines.proofs.listening.put_said.Goals as goal

pub returns-then-is_board : goal.returns-then-is_board
returns-then-is_board c =
    said_board c.args.runs c.args.table c.args.line c.args.place c.args.out.now _ _ c.is_board.result c.is_board.ensures c.if-is_board.true c.put_board.ensures

pub returns-then-reply-eq0 : goal.returns-then-reply-eq0
returns-then-reply-eq0 c =
    said_done c.args.runs c.args.table c.args.line c.args.place c.args.out.now _ _ c.is_board.result c.is_board.ensures c.if-is_board.false c.reply_to-reply.result c.reply_to-reply.ensures c.if-reply-eq0.true c.put_done.ensures

pub returns : goal.returns
returns c =
    said_refused c.args.runs c.args.table c.args.line c.args.place c.args.out.now _ _ c.is_board.result c.is_board.ensures c.if-is_board.false c.reply_to-reply.result c.reply_to-reply.ensures c.if-reply-eq0.false c.put_refused.ensures
