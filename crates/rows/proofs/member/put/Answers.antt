use Rattle.rows.specs.Member.{put_member}
use Rattle.rows.proofs.member.put.Goals as goal

pub returns : goal.returns
unfolding put_member
returns c = c.put.ensures
