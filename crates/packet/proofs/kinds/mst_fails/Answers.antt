use Rattle.std.proofs.Common.{refl}
use Rattle.packet.specs.Kinds.{mst_fails}
use Rattle.packet.proofs.kinds.mst_fails.Goals as goal

pub returns : goal.returns
unfolding mst_fails
returns c = refl
