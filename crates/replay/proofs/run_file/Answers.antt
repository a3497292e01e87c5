use Rattle.std.proofs.Common.{arith}
use Rattle.replay_lines.specs.Deeds.Carried.{same}
use Rattle.replay_lines.specs.Laws.Carrying.{carried_on}
use Rattle.replay.proofs.run_file.Goals as goal

pub loop-init : goal.loop-init
loop-init g c = (omega arith, same)

pub loop-preserved : goal.loop-preserved
loop-preserved g c = (omega arith, carried_on c.loop.invariant.1 c.run_some-part.ensures.carried)

pub returns-then-not-part : goal.returns-then-not-part
returns-then-not-part g c = carried_on c.loop.invariant.1 c.run_some-part.ensures.carried
