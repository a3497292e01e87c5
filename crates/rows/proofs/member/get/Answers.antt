use Rattle.rows.specs.Member.{member_at}
use Rattle.rows.proofs.member.get.Goals as goal

pub returns : goal.returns
unfolding member_at
returns c = c.get.ensures
