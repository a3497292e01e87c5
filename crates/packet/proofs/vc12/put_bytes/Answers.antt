use Rattle.std.proofs.Common.{◌≡◌, arith}
use Rattle.ground.specs.Drawn.{filling_all, filling_none}
use Rattle.packet.specs.Vc12.{vc12_bytes}
use Rattle.packet.proofs.OneNumber.{filling_next}
use Rattle.packet.proofs.vc12.put_bytes.Goals as goal

pub loop-place-init : goal.loop-place-init
loop-place-init c = filling_none _ _ _

pub loop-place-preserved : goal.loop-place-preserved
loop-place-preserved c = filling_next _ c.loop-place.invariant c.frame_byte.ensures

pub returns : goal.returns
unfolding vc12_bytes
returns c =
    let e : c.loop-place.place ≡ 32 = omega arith in
    filling_all (rw e at c.loop-place.invariant) c.requires
