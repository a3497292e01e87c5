use Rattle.std.proofs.Common.{◌≡◌, ◌∙◌, arith}
use Rattle.std.specs.Prelude.{length}
use Rattle.judge.specs.Full.{Full}
use Rattle.judge.proofs.Placing.{placed_none, placed_all, ranked_more}
use Rattle.judge.proofs.seen.Ports.by_number.Goals as goal

pub loop-i-init : goal.loop-i-init
loop-i-init c = placed_none _ _

pub loop-i-preserved : goal.loop-i-preserved
loop-i-preserved c =
    let ports = c.self.inside.seen.now in
    let full : Full ports (length ports) = rw c.self.view_is c.requires in
    ranked_more ports (length ports) full c.loop-i.i c.loop-i.order (omega arith) (omega arith) c.loop-i.invariant

pub returns : goal.returns
returns c =
    let ports = c.self.inside.seen.now in
    let e : c.loop-i.i ≡ length ports = omega arith in
    rw (← c.self.view_is) (rw e at c.loop-i.invariant ∙ placed_all ports (length ports))
