use Rattle.std.proofs.Common.{refl, arith}
use Rattle.ground.specs.Counting.Each.{done_none, done_more, done_table}
use Rattle.store.specs.Marks.{cut_from}
use Rattle.store.proofs.marks.cut.Goals as goal

pub loop-k-init : goal.loop-k-init
loop-k-init c = done_none _ _

pub loop-k-preserved : goal.loop-k-preserved
loop-k-preserved c = done_more _ c.loop-k.invariant c.cut_byte.ensures

pub returns : goal.returns
unfolding cut_from
returns c = done_table c.loop-k.invariant (omega arith) refl
