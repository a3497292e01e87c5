use Rattle.std.proofs.Common.{refl}
use Rattle.packet.specs.Counts.{h4_counts}
use Rattle.packet.proofs.counts.is_counted.Goals as goal

pub returns : goal.returns
unfolding h4_counts
returns c = refl
