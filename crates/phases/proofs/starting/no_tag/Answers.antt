use Rattle.phases.specs.Beginning.{no_tag}
use Rattle.phases.proofs.starting.no_tag.Goals as goal

pub returns : goal.returns
unfolding no_tag
returns c = c.tag_count.ensures
