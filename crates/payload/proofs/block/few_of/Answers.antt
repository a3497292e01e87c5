use mathlib.Core.Path.{◌≡◌, refl}
use native.Mathlib.Nat.{zero-add}
use native.Mathlib.Omega.{arith}
use Rattle.ground.specs.Drawn.{filling_none, filling_more, filling_all}
use Rattle.payload.proofs.block.few_of.Goals as goal

pub loop-r-init : goal.loop-r-init
loop-r-init c = (refl, omega arith, filling_none _ _ _)

pub loop-r-preserved : goal.loop-r-preserved
loop-r-preserved c =
    (c.loop-r.invariant.0, omega arith, rw c.start.ensures (rw zero-add at (filling_more c.loop-r.invariant.2)))

pub returns : goal.returns
returns c =
    let e : c.loop-r.r ≡ 8 = omega arith in
    filling_all (rw e at c.loop-r.invariant.2) c.loop-r.invariant.0
