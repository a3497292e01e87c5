use Rattle.std.proofs.Common.{◌≡◌, ◌+◌, drop, arith}
use Rattle.ground.specs.Finding.{index_of}
use Rattle.replay_lines.specs.Laws.Placed.{turned_placed}
use Rattle.replay_lines.specs.Turn.{skip_turn}
use Rattle.replay_lines.proofs.Deciding.{end_all, end_is, end_none, end_there}
use Rattle.text.specs.Text.{LINE-END}
use Rattle.replay_lines.proofs.turns.skip.Goals as goal

pub returns-then-end-text : goal.returns-then-end-text
unfolding skip_turn
returns-then-end-text c =
    let e = end_is c.args.text.now c.args.at c.piece_end-end.result c.piece_end-end.ensures in
    let n : c.piece_end-end.result + 1 ≡ c.args.at + (index_of LINE-END (drop c.args.at c.args.text.now) + 1) = omega arith in
    rw (end_there c.args.text.now c.args.at c.piece_end-end.result c.piece_end-end.ensures c.if-end-text.true) (turned_placed c.args.at _ _ n _ _ _)

pub returns : goal.returns
unfolding skip_turn
returns c =
    let n = end_all c.args.text.now c.args.at c.piece_end-end.result c.piece_end-end.ensures c.if-end-text.false in
    rw (end_none c.args.text.now c.args.at c.piece_end-end.result c.piece_end-end.ensures c.if-end-text.false, c.skipped_to-phase.ensures) (turned_placed c.args.at _ _ n _ _ _)
