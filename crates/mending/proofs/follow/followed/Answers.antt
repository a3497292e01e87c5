use Rattle.mending.specs.Follow.{fed}
use Rattle.mending.proofs.follow.followed.Goals as goal

pub returns : goal.returns
unfolding fed
returns c = rw (← c.less_place.ensures) c.follow_on.ensures
