use Rattle.std.proofs.Common.{refl}
use Rattle.replay_lines.specs.Laws.Placed.{stays}
use Rattle.replay_lines.specs.Turn.{reported_turn}
use Rattle.replay_lines.proofs.turns.reported.Goals as goal

pub returns : goal.returns
unfolding reported_turn
returns c = stays c.args.at (reported_turn c.args.replay c.args.written) refl
