use Rattle.std.proofs.Common.{◌≡◌, refl, add-one, arith}
use Rattle.std.specs.Prelude.{length}
use Rattle.receiver.specs.Starting.{times_within}
use Rattle.receiver.proofs.starting.times_within.Goals as goal

pub loop-count-init : goal.loop-count-init
loop-count-init c = refl

pub loop-count-preserved : goal.loop-count-preserved
loop-count-preserved c = rw (c.loop-count.invariant, add-one)

pub returns : goal.returns
unfolding times_within
returns c =
    let e : c.loop-count.count-index ≡ length c.args.counts.now = omega arith in
    rw e at c.loop-count.invariant
