use Rattle.std.proofs.Common.{◌≡◌, refl, add-one, arith}
use Rattle.std.specs.Prelude.{length}
use Rattle.judge.specs.Verdict.{repeats}
use Rattle.judge.proofs.First.{takes_below}
use Rattle.judge.proofs.seen.Ports.has_pairs.Goals as goal

pub loop-i-init : goal.loop-i-init
unfolding repeats
loop-i-init c = refl

pub loop-i-preserved : goal.loop-i-preserved
unfolding repeats
loop-i-preserved c =
    let taken = takes_below c.self.inside.seen.now c.below.result c.loop-i.i (rw c.self.view_is c.below.ensures.first) c.below.ensures.many in
    rw (c.loop-i.invariant, c.is_numbered.ensures, c.is_taken.ensures, add-one, taken _)

pub returns : goal.returns
returns c =
    let e : c.loop-i.i ≡ length c.self.inside.seen.now = omega arith in
    rw (← c.self.view_is) (rw e at c.loop-i.invariant)
