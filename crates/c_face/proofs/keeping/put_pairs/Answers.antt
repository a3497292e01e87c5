use Rattle.std.proofs.Common.{◌≡◌, ◌*◌, arith}
use Rattle.ground.specs.Drawn.{filling_none}
use Rattle.c_face.proofs.Wholes.{filling_pair}
use Rattle.c_face.proofs.keeping.put_pairs.Goals as goal

pub loop-i-init : goal.loop-i-init
loop-i-init g c = λ d. filling_none _ _ _

pub loop-i-preserved : goal.loop-i-preserved
loop-i-preserved g c = λ d. filling_pair g.T.Pair.side c.args.pairs.now d c.loop-i.i c.index-pairs-i.result c.pair.result (omega arith) (c.loop-i.invariant d) c.pair.ensures

pub returns : goal.returns
returns g c = λ d. let e : 2 * c.loop-i.i ≡ 128 = omega arith in rw e at (c.loop-i.invariant d).is
