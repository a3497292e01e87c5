use Rattle.rows.specs.Group.{group_at}
use Rattle.rows.proofs.group.get.Goals as goal

pub returns : goal.returns
unfolding group_at
returns c = c.get.ensures
