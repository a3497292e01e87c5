use Rattle.replay_lines.specs.Laws.Carrying.{carried_once}
use Rattle.replay.proofs.take_turn.Goals as goal

pub returns-clause-carried : goal.returns-clause-carried
returns-clause-carried g c = carried_once _ _ _ _ _ _ _ _ _ _ _ c.turn-turn.ensures.0 c.turn-turn.ensures.1 c.turn-turn.ensures.2
