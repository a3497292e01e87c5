use Rattle.std.proofs.Common.{get_or, arith}
use Rattle.text.specs.Laws.Putting.{put_then}
use Rattle.replay_lines.specs.Output.{report_text}
use Rattle.replay_lines.proofs.Printing.{epoch_le}
use Rattle.replay_lines.proofs.changes.put_report.Goals as goal

pub put_epoch-next-requires : goal.put_epoch-next-requires
put_epoch-next-requires c = let l = epoch_le (get_or c.args.given 1 0) (get_or c.args.given 0 0) c.count_in-count.result c.args.line (get_or c.args.given 3 0) c.args.blamed in omega arith

pub put_changes-requires : goal.put_changes-requires
put_changes-requires c =
    let l = epoch_le (get_or c.args.given 1 0) (get_or c.args.given 0 0) c.count_in-count.result c.args.line (get_or c.args.given 3 0) c.args.blamed in
    let b = c.put_epoch-next.ensures.behind in
    let k = c.put_epoch-next.ensures.kept in
    (c.requires.0, omega arith)

pub returns : goal.returns
unfolding report_text
returns c =
    rw (← c.count_in-count.ensures) (put_then c.put_epoch-next.ensures c.put_changes.ensures)
