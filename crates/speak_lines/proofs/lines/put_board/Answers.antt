-- In runs the text is what speaking the whole board writes (`board_runs`), else what the console shows (`board_each`).
-- The room required leaves no refusal by length.
use Rattle.std.proofs.Common.{refl}
use Rattle.spoken.specs.Theorems.NothingLost.{whole_speech_known}
use Rattle.speak_lines.proofs.Printing.{board_each, board_runs, told_written}
use Rattle.speak_lines.proofs.lines.put_board.Goals as goal

pub returns-then-runs : goal.returns-then-runs
returns-then-runs c =
    let n = told_written _ _ _ c.speak_whole.ensures.told.0 (whole_speech_known c.args.out.now c.board_of.result) c.unwrap_or.ensures in
    rw n (board_runs c.args.runs c.args.out.now _ _ c.requires c.if-runs.true c.args.table c.board_of.result c.board_of.ensures (refl, c.speak_whole.ensures.told.1))

pub returns : goal.returns
returns c =
    board_each c.args.runs c.args.table c.args.out.now _ _ c.requires c.if-runs.false c.show.ensures
