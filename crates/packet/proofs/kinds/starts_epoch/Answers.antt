use Rattle.std.proofs.Common.{refl}
use Rattle.packet.specs.Kinds.{starts_epoch}
use Rattle.packet.proofs.kinds.starts_epoch.Goals as goal

pub returns : goal.returns
unfolding starts_epoch
returns c = rw c.place_of.ensures refl
