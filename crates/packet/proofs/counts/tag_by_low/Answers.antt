use Rattle.std.proofs.Common.{refl}
use Rattle.packet.specs.Counts.{tag_by_low}
use Rattle.packet.proofs.counts.tag_by_low.Goals as goal

pub returns : goal.returns
unfolding tag_by_low
returns c = refl
