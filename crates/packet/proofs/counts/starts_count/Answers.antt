use Rattle.std.proofs.Common.{refl}
use Rattle.packet.specs.Counts.{starts_count}
use Rattle.packet.proofs.counts.starts_count.Goals as goal

pub returns : goal.returns
unfolding starts_count
returns c = refl
