use Rattle.mending.proofs.Promised.{ended_by}
use mathlib.Core.Path.{◌≡◌, refl, ◌∙◌}
use native.Mathlib.Omega.{arith}
use Rattle.mending.proofs.copying.finish.Goals as goal

pub loop-i-init : goal.loop-i-init
loop-i-init c = (omega arith, omega arith, omega arith, refl, refl)

pub bounds-follows-i : goal.bounds-follows-i
bounds-follows-i c = let i = c.loop-i.invariant.1 in omega arith

pub bounds-keys-i : goal.bounds-keys-i
bounds-keys-i c = let i = c.loop-i.invariant.2 in omega arith

pub restore_at-requires : goal.restore_at-requires
restore_at-requires c = c.count_back-count.ensures.1

pub loop-i-preserved : goal.loop-i-preserved
loop-i-preserved c =
    let i = c.loop-i.invariant in
    let e = ended_by c.args.follows.now c.args.keys.now c.loop-i.i c.args.mended.now c.loop-i.mended _ c.is_last-is.result c.count_back-count.result i.4 c.is_last-is.ensures c.count_back-count.ensures.0 c.restore_at.ensures in
    (omega arith, i.1, i.2, e.1 ∙ i.3, e.0)

pub shape_of-mended : goal.shape_of-mended
shape_of-mended c = c.loop-i.invariant.3

pub returns : goal.returns
returns c = let i = c.loop-i.invariant.4 in let e : c.loop-i.i ≡ 64 = omega arith in rw e at i
