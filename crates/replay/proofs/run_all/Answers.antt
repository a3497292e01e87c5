use Rattle.replay_lines.specs.Deeds.Carried.{same}
use Rattle.replay_lines.specs.Laws.Carrying.{carried_on}
use Rattle.replay.proofs.run_all.Goals as goal

pub loop-i-init : goal.loop-i-init
loop-i-init c = same

pub loop-i-preserved : goal.loop-i-preserved
loop-i-preserved c = carried_on c.loop-i.invariant c.run_named-next.ensures
