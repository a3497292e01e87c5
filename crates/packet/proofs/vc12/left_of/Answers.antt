use Rattle.std.proofs.Common.{refl, arith}
use Rattle.packet.proofs.OneNumber.{divided_all, divided_more, divided_none}
use Rattle.packet.proofs.vc12.left_of.Goals as goal

pub loop-k-init : goal.loop-k-init
loop-k-init c = divided_none c.args.number

pub loop-k-preserved : goal.loop-k-preserved
loop-k-preserved c = divided_more c.args.number c.loop-k.k c.loop-k.left _ _ c.loop-k-test.true refl c.brought-left.ensures c.loop-k.invariant

pub returns : goal.returns
returns c = divided_all c.args.number c.loop-k.k c.loop-k.left (omega arith) c.loop-k.invariant
