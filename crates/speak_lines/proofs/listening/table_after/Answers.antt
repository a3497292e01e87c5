use Rattle.speak_lines.proofs.Answering.{table_epoch, table_line}
use Rattle.speak_lines.proofs.listening.table_after.Goals as goal

pub returns-then-is_epoch : goal.returns-then-is_epoch
returns-then-is_epoch c =
    table_epoch c.args.table c.args.kept c.is_epoch.result c.is_epoch.ensures c.if-is_epoch.true

pub returns : goal.returns
returns c =
    table_line c.args.table c.args.kept c.is_epoch.result c.is_epoch.ensures c.if-is_epoch.false c.line_in.result c.line_in.ensures c.reply_to.result c.reply_to.ensures
