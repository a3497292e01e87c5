use Rattle.std.proofs.Common.{refl}
use Rattle.replay_lines.specs.Laws.Placed.{stays}
use Rattle.replay_lines.specs.Turn.{waiting_turn}
use Rattle.replay_lines.proofs.turns.waiting.Goals as goal

pub returns : goal.returns
returns c = stays _ (waiting_turn _) refl
