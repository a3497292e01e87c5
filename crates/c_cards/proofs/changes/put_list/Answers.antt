use mathlib.Core.Path.{◌≡◌}
use native.Mathlib.Omega.{arith}
use Rattle.ground.specs.Drawn.{filling_none}
use Rattle.c_cards.proofs.Telling.{five_more}
use Rattle.c_cards.proofs.changes.put_list.Goals as goal

pub loop-i-init : goal.loop-i-init
loop-i-init c = (omega arith, omega arith, filling_none _ _ _)

pub put_bytes-requires : goal.put_bytes-requires
put_bytes-requires c =
    let f = c.loop-i.invariant.2.len in omega arith

pub loop-i-preserved : goal.loop-i-preserved
loop-i-preserved c =
    (c.loop-i.invariant.0, omega arith, five_more c.args.list c.loop-i.i _ c.change_bytes-five.ensures c.loop-i.invariant.2 c.put_bytes.ensures)

pub shape_of-out : goal.shape_of-out
shape_of-out c = c.loop-i.invariant.2.len

pub returns : goal.returns
returns c = let e : c.loop-i.i ≡ 64 = omega arith in rw e at c.loop-i.invariant.2.is
