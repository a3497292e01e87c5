use Rattle.std.proofs.Common.{arith, refl}
use Rattle.ground.specs.Counting.Each.{done_none, done_more, done_all}
use Rattle.judge.specs.Laws.Sizes.{size_le}
use Rattle.receiver.specs.Laws.Rings.{rings_of}
use Rattle.receiver.proofs.joining.rings_of.Goals as goal

pub loop-rank-init : goal.loop-rank-init
loop-rank-init c = (refl, omega arith, rw c.size_of-n.ensures (size_le c.args.x), done_none _ _)

pub loop-rank-preserved : goal.loop-rank-preserved
loop-rank-preserved c = (c.loop-rank.invariant.0, c.loop-rank.invariant.1, c.loop-rank.invariant.2, done_more _ c.loop-rank.invariant.3 c.ring_at.ensures)

pub returns : goal.returns
unfolding rings_of
returns c = rw (← c.size_of-n.ensures) (done_all {n = c.size_of-n.result} c.loop-rank.invariant.3 (omega arith))
