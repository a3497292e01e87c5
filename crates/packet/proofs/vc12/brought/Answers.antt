use Rattle.packet.proofs.OneNumber.{brought_none, brought_one}
use Rattle.packet.proofs.vc12.brought.Goals as goal

pub returns-then-left-eq1 : goal.returns-then-left-eq1
returns-then-left-eq1 c = brought_one _ _ c.if-left-eq1.true

pub returns : goal.returns
returns c = brought_none _ _ c.if-left-eq1.false
