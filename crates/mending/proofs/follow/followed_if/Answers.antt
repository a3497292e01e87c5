use Rattle.mending.proofs.follow.followed_if.Goals as goal

pub returns-then-counted : goal.returns-then-counted
returns-then-counted c = rw c.if-counted.true c.followed.ensures

pub returns : goal.returns
returns c = rw (c.if-counted.false, ← c.less_place-o.ensures) c.gone_on.ensures
