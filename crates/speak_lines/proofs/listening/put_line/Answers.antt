-- `epoch` tells the changes from the board she holds to the table's own (`text_epoch`); any other line tells what it says (`text_line`).
use Rattle.std.proofs.Common.{refl}
use Rattle.spoken.specs.Laws.Answers.{told_done}
use Rattle.speak_lines.proofs.Printing.{none_told, uncompared}
use Rattle.speak_lines.proofs.Answering.{text_epoch, text_line}
use Rattle.speak_lines.proofs.listening.put_line.Goals as goal

pub returns-in-Ok : goal.returns-in-Ok
returns-in-Ok c =
    text_epoch c.args.listener c.args.kept c.args.out.now _ _ c.is_epoch.result c.is_epoch.ensures c.if-is_epoch.true c.board_of.result c.board_of.ensures _ refl
    (rw (← (told_done _ _ _ c.in-Ok.ensures.told).1) at c.put_changes.ensures)

pub returns-in-Err : goal.returns-in-Err
returns-in-Err c =
    text_epoch c.args.listener c.args.kept c.args.out.now _ _ c.is_epoch.result c.is_epoch.ensures c.if-is_epoch.true c.board_of.result c.board_of.ensures _ refl
    (rw (uncompared _ _ _ c.in-Err.ensures.told, none_told c.args.listener.runs) (refl, refl))

pub returns : goal.returns
returns c =
    text_line c.args.listener c.args.kept c.args.out.now _ _ c.is_epoch.result c.is_epoch.ensures c.if-is_epoch.false c.line_in-line.result c.line_in-line.ensures c.put_said.ensures
