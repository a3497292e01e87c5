use Rattle.std.proofs.Common.{refl}
use Rattle.packet.specs.Kinds.{mst_numbers}
use Rattle.packet.proofs.kinds.mst_numbers.Goals as goal

pub returns : goal.returns
unfolding mst_numbers
returns c = refl
