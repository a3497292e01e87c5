use Rattle.rows.specs.Group.{put_group}
use Rattle.rows.proofs.group.put.Goals as goal

pub returns : goal.returns
unfolding put_group
returns c = c.put.ensures
