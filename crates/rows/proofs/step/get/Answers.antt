use Rattle.rows.specs.Step.{step_at}
use Rattle.rows.proofs.step.get.Goals as goal

pub returns : goal.returns
unfolding step_at
returns c = c.get.ensures
