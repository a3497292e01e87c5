use Rattle.std.proofs.Common.{refl}
use Rattle.replay_lines.specs.Laws.Placed.{stays}
use Rattle.replay_lines.specs.Turn.{read_on_turn}
use Rattle.replay_lines.proofs.turns.read_on.Goals as goal

pub returns : goal.returns
unfolding read_on_turn
returns c = stays c.args.at (read_on_turn c.args.replay) refl
