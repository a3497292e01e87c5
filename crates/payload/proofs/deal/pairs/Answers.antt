use mathlib.Core.Path.{◌≡◌, refl}
use native.Mathlib.Omega.{arith}
use lib.ListN.{length-set}
use Rattle.payload.proofs.Deals.{pairs_none, pair_more}
use Rattle.payload.proofs.deal.pairs.Goals as goal

pub loop-i-init : goal.loop-i-init
loop-i-init c = (refl, omega arith, pairs_none _ _)

pub loop-i-preserved : goal.loop-i-preserved
loop-i-preserved c =
    let long = c.loop-i.invariant.0 in
    (simp length-set long, omega arith, pair_more c.loop-i.i c.pair.result c.args.q c.loop-i.w (omega (arith, long)) c.pair.ensures c.loop-i.invariant.2)

pub returns : goal.returns
returns c =
    let e : c.loop-i.i ≡ 64 = omega arith in
    rw e at c.loop-i.invariant.2
