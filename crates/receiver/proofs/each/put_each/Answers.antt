use Rattle.std.proofs.Common.{arith}
use Rattle.ground.specs.Counting.Each.{done_none, done_more, done_all}
use Rattle.receiver.proofs.each.put_each.Goals as goal

pub loop-port-init : goal.loop-port-init
loop-port-init g c = λ f h. done_none f _

pub loop-port-preserved : goal.loop-port-preserved
loop-port-preserved g c = λ f h. done_more _ (c.loop-port.invariant f h) (h _ _ c.of.ensures)

pub returns : goal.returns
returns g c = λ f h. done_all (c.loop-port.invariant f h) (omega arith)
