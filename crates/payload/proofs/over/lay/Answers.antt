use Prim.Native.Nat.{◌<◌}
use native.Mathlib.Omega.{arith}
use Rattle.payload.proofs.Fronts.{over_turned}
use Rattle.payload.proofs.over.lay.Goals as goal

pub shape_of-out : goal.shape_of-out
shape_of-out c = c.write.ensures.len

pub returns : goal.returns
returns c =
    let pos : 0 < c.args.x = omega (arith, c.requires.0) in
    over_turned c.args.x c.args.q c.turned-t.result pos c.requires.1 c.turned-t.ensures c.write.ensures
