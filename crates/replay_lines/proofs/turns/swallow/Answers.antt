use Rattle.replay_lines.specs.Laws.Placed.{turned_placed}
use Rattle.replay_lines.proofs.turns.swallow.Goals as goal

pub returns : goal.returns
returns c = turned_placed c.args.at c.end_behind.result _ c.end_behind.ensures c.args.replay 0 _
