use Prim.Native.Nat.{◌<◌, ◌+◌}
use mathlib.Core.Path.{◌≡◌}
use native.Mathlib.Omega.{arith}
use Rattle.ground.specs.Drawn.{drawing_none, drawing_put}
use Rattle.payload.specs.Inner.Area.{area}
use Rattle.payload.proofs.Areas.{in_frame, area_no_line, line_of, column_more}
use Rattle.payload.proofs.plain.column.Goals as goal

pub loop-j-init : goal.loop-j-init
loop-j-init c = (omega arith, drawing_none _ _ _ (area_no_line _ _ 0 _ 1))

pub overflow_mul-out : goal.overflow_mul-out
overflow_mul-out c = omega (arith, in_frame c.args.x c.args.p c.loop-j.j c.args.r (omega arith) (omega arith))

pub overflow_add-out-in-loop-j : goal.overflow_add-out-in-loop-j
overflow_add-out-in-loop-j c = omega (arith, in_frame c.args.x c.args.p c.loop-j.j c.args.r (omega arith) (omega arith))

pub overflow_add-out-in-loop-j-2 : goal.overflow_add-out-in-loop-j-2
overflow_add-out-in-loop-j-2 c = omega (arith, in_frame c.args.x c.args.p c.loop-j.j c.args.r (omega arith) (omega arith))

pub bounds-out-place : goal.bounds-out-place
bounds-out-place c = omega (arith, in_frame c.args.x c.args.p c.loop-j.j c.args.r (omega arith) (omega arith))

pub loop-j-preserved : goal.loop-j-preserved
loop-j-preserved c =
    let j = c.loop-j.j in
    let h : c.args.r < c.args.x = omega arith in (
      omega arith,
      drawing_put (area c.args.x c.args.place 0 (j + 1) c.args.r 1) _ _ c.loop-j.invariant.1 (rw (line_of c.args.x c.args.place j c.args.r h))
          (λ k. column_more c.args.x c.args.place j c.args.r k h),
    )

pub shape_of-out : goal.shape_of-out
shape_of-out c = c.loop-j.invariant.1.len

pub returns : goal.returns
returns c = let e : c.loop-j.j ≡ c.args.p = omega arith in rw (← e) c.loop-j.invariant.1.is
