use Rattle.std.proofs.Common.{refl}
use Rattle.packet.specs.Counts.{carries_low}
use Rattle.packet.proofs.counts.carries_low.Goals as goal

pub returns : goal.returns
unfolding carries_low
returns c = refl
