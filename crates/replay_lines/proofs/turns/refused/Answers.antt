use Rattle.std.proofs.Common.{refl}
use Rattle.replay_lines.specs.Laws.Placed.{stays}
use Rattle.replay_lines.specs.Turn.{refused_turn}
use Rattle.replay_lines.proofs.turns.refused.Goals as goal

pub returns : goal.returns
returns c = stays _ (refused_turn _) refl
