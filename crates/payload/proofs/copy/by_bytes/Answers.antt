use Rattle.ground.specs.Drawn.{filling_none, filling_more}
use Rattle.payload.proofs.copy.by_bytes.Goals as goal

pub loop-j-init : goal.loop-j-init
loop-j-init c = filling_none _ _ _

pub loop-j-preserved : goal.loop-j-preserved
loop-j-preserved c = filling_more c.loop-j.invariant
