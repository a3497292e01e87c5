use Rattle.std.proofs.Common.{refl}
use Rattle.packet.specs.Counts.{says_start}
use Rattle.packet.proofs.counts.says_start.Goals as goal

pub returns : goal.returns
unfolding says_start
returns c = refl
