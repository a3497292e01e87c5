use mathlib.Core.Path.{◌≡◌, refl}
use Prim.Native.Nat.{◌<◌}
use native.Mathlib.Omega.{arith}
use Rattle.payload.proofs.Deals.{split_none, split_more}
use Rattle.payload.proofs.deal.split.Goals as goal

pub loop-i-init : goal.loop-i-init
loop-i-init c = (omega arith, split_none _ _ _ refl)

pub loop-i-preserved : goal.loop-i-preserved
loop-i-preserved c =
    let more : c.loop-i.i < c.args.n = omega arith in
    (omega arith, split_more c.args.n c.loop-i.i c.low.result c.high.result _ c.loop-i.s c.requires more c.low.ensures c.high.ensures c.loop-i.invariant.1)

pub returns : goal.returns
returns c =
    let e : c.loop-i.i ≡ c.args.n = omega arith in
    rw e at c.loop-i.invariant.1
