use Rattle.std.proofs.Common.{refl}
use Rattle.packet.specs.Counts.{tag_by_high}
use Rattle.packet.proofs.counts.tag_by_high.Goals as goal

pub returns : goal.returns
unfolding tag_by_high
returns c = refl
