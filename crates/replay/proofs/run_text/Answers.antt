use Rattle.std.proofs.Common.{arith}
use Rattle.replay_lines.specs.Deeds.Carried.{same}
use Rattle.replay_lines.specs.Laws.Carrying.{carried_on}
use Rattle.replay.proofs.run_text.Goals as goal

pub loop-init : goal.loop-init
loop-init g c = (omega arith, same)

pub loop-preserved : goal.loop-preserved
loop-preserved g c = (c.take_turn-turn.ensures.at, carried_on c.loop.invariant.1 c.take_turn-turn.ensures.carried)

pub returns-then-not-goes_on-clause-carried : goal.returns-then-not-goes_on-clause-carried
returns-then-not-goes_on-clause-carried g c = carried_on c.loop.invariant.1 c.take_turn-turn.ensures.carried
