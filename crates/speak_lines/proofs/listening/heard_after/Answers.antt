-- The board she holds changes with `epoch` (`heard_epoch`) and with a size that is accepted (`heard_anew`), and else stays (`heard_still`).
use Rattle.speak_lines.proofs.Answering.{heard_anew, heard_epoch, heard_still}
use Rattle.speak_lines.proofs.listening.heard_after.Goals as goal

pub returns-then-is_epoch : goal.returns-then-is_epoch
returns-then-is_epoch c =
    heard_epoch c.args.table c.args.kept c.is_epoch.result c.is_epoch.ensures c.if-is_epoch.true c.board_of.result c.args.heard c.board_of.ensures

pub returns-then-is_size : goal.returns-then-is_size
returns-then-is_size c =
    heard_anew c.args.table c.args.kept c.is_epoch.result c.is_epoch.ensures c.if-is_epoch.false c.line_in-line.result c.line_in-line.ensures c.is_size.result c.is_size.ensures c.if-is_size.true c.reply_to.result c.reply_to.ensures c.board_of-then-is_size.result c.args.heard c.board_of-then-is_size.ensures

pub returns : goal.returns
returns c =
    heard_still c.args.table c.args.kept c.is_epoch.result c.is_epoch.ensures c.if-is_epoch.false c.line_in-line.result c.line_in-line.ensures c.is_size.result c.is_size.ensures c.if-is_size.false c.args.heard
