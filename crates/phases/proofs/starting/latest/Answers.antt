use Rattle.phases.specs.Beginning.{latest}
use Rattle.phases.proofs.starting.latest.Goals as goal

pub returns : goal.returns
unfolding latest
returns c = c.previous_tag.ensures
