use mathlib.Core.Path.{◌≡◌, refl}
use native.Mathlib.Nat.{zero-add}
use native.Mathlib.Omega.{arith}
use lib.ListN.{length}
use Rattle.ground.specs.Drawn.{filling_none, filling_more, filling_all}
use Rattle.payload.proofs.plain.clear.Goals as goal

pub loop-j-init : goal.loop-j-init
loop-j-init c = (omega arith, filling_none _ _ _)

pub loop-j-preserved : goal.loop-j-preserved
loop-j-preserved c = (omega arith, rw zero-add at (filling_more c.loop-j.invariant.1))

pub shape_of-to : goal.shape_of-to
shape_of-to c = c.loop-j.invariant.1.len

pub returns : goal.returns
returns c =
    let e : c.loop-j.j ≡ length c.args.to.now = omega arith in
    filling_all (rw e at c.loop-j.invariant.1) refl
