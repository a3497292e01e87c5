use Rattle.std.proofs.Common.{refl, arith}
use Rattle.packet.proofs.OneNumber.{first_byte, other_byte}
use Rattle.packet.proofs.vc12.frame_byte.Goals as goal

pub returns-then-place-eq0 : goal.returns-then-place-eq0
returns-then-place-eq0 c = first_byte _ _ _ (omega arith) refl c.if-place-eq0.true

pub returns : goal.returns
returns c = other_byte _ _ _ (omega arith) refl c.if-place-eq0.false
