use mathlib.Core.Path.{◌≡◌}
use native.Mathlib.Omega.{arith}
use Rattle.ground.specs.Drawn.{filling_none, filling_more}
use Rattle.payload.proofs.Areas.{in_frame}
use Rattle.payload.proofs.plain.member.Goals as goal

pub loop-j-init : goal.loop-j-init
loop-j-init c = (omega arith, filling_none _ _ _)

pub overflow_mul-to : goal.overflow_mul-to
overflow_mul-to c = omega (arith, in_frame c.args.x c.args.p c.loop-j.j c.args.r (omega arith) (omega arith))

pub overflow_add-to : goal.overflow_add-to
overflow_add-to c = omega (arith, in_frame c.args.x c.args.p c.loop-j.j c.args.r (omega arith) (omega arith))

pub bounds-frame-j : goal.bounds-frame-j
bounds-frame-j c = omega (arith, in_frame c.args.x c.args.p c.loop-j.j c.args.r (omega arith) (omega arith))

pub loop-j-preserved : goal.loop-j-preserved
loop-j-preserved c = (omega arith, filling_more c.loop-j.invariant.1)

pub shape_of-to : goal.shape_of-to
shape_of-to c = c.loop-j.invariant.1.len

pub returns : goal.returns
returns c = let e : c.loop-j.j ≡ c.args.p = omega arith in rw (← e) c.loop-j.invariant.1.is
