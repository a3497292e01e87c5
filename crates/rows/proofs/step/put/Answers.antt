use Rattle.rows.specs.Step.{put_step}
use Rattle.rows.proofs.step.put.Goals as goal

pub returns : goal.returns
unfolding put_step
returns c = c.put.ensures
