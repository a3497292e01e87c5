use Rattle.std.proofs.Common.{refl}
use Rattle.packet.specs.Kinds.{known_kind}
use Rattle.packet.proofs.kinds.is_known.Goals as goal

pub returns : goal.returns
unfolding known_kind
returns c = refl
