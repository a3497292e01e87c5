use Rattle.std.proofs.Common.{refl}
use Rattle.packet.specs.Kinds.{payload_right}
use Rattle.packet.proofs.kinds.is_payload.Goals as goal

pub returns : goal.returns
unfolding payload_right
returns c = refl
