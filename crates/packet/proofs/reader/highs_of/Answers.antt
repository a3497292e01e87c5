use Rattle.std.proofs.Common.{◌≡◌, refl, arith}
use Rattle.ground.specs.Drawn.{filling_all, filling_none}
use Rattle.packet.specs.Layout.{highs_of}
use Rattle.packet.proofs.OneNumber.{filling_next}
use Rattle.packet.proofs.reader.highs_of.Goals as goal

pub loop-place-init : goal.loop-place-init
loop-place-init c = filling_none _ _ _

pub loop-place-preserved : goal.loop-place-preserved
loop-place-preserved c = filling_next _ c.loop-place.invariant refl

pub returns : goal.returns
unfolding highs_of
returns c =
    let e : c.loop-place.place ≡ 16 = omega arith in
    filling_all (rw e at c.loop-place.invariant) refl
