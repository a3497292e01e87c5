-- `data_of` meets its contract: fourteen nibbles, each by the definition's own sum; what is asked for is that the sums fit a byte.
use Rattle.std.proofs.Common.{refl}
use Rattle.packet.specs.Layout.{data_of}
use Rattle.packet.proofs.layout.data_of.Goals as goal

pub returns : goal.returns
unfolding data_of
returns c = refl
