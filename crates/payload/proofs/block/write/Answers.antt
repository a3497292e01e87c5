use mathlib.Core.Path.{◌≡◌}
use native.Mathlib.Nat.{le_refl}
use native.Mathlib.Omega.{arith}
use Rattle.ground.specs.Drawn.{drawing_none}
use Rattle.payload.proofs.Areas.{area_no_line}
use Rattle.payload.proofs.Blocks.{run_in, line_more}
use Rattle.payload.proofs.Frames.{member_in}
use Rattle.payload.proofs.block.write.Goals as goal

pub loop-i-init : goal.loop-i-init
loop-i-init c = (omega arith, drawing_none _ _ _ (area_no_line _ _ _ _ _))

pub overflow_mul-i : goal.overflow_mul-i
overflow_mul-i c = let t = member_in c.args.w c.args.h c.loop-i.i c.loop-i-test.true in omega arith

pub overflow_add-j : goal.overflow_add-j
overflow_add-j c = let s = run_in c.args.x c.args.j c.args.w c.loop-i.i c.args.r c.args.h _ (le_refl _) c.requires.0 c.requires.1 c.loop-i-test.true in omega arith

pub overflow_mul-j : goal.overflow_mul-j
overflow_mul-j c = let s = run_in c.args.x c.args.j c.args.w c.loop-i.i c.args.r c.args.h _ (le_refl _) c.requires.0 c.requires.1 c.loop-i-test.true in omega arith

pub overflow_add-j-in-loop-i : goal.overflow_add-j-in-loop-i
overflow_add-j-in-loop-i c = let s = run_in c.args.x c.args.j c.args.w c.loop-i.i c.args.r c.args.h _ (le_refl _) c.requires.0 c.requires.1 c.loop-i-test.true in omega arith

pub overflow_add-place : goal.overflow_add-place
overflow_add-place c = let s = run_in c.args.x c.args.j c.args.w c.loop-i.i c.args.r c.args.h _ (le_refl _) c.requires.0 c.requires.1 c.loop-i-test.true in omega arith

pub by_bytes-requires : goal.by_bytes-requires
by_bytes-requires c =
    let s = run_in c.args.x c.args.j c.args.w c.loop-i.i c.args.r c.args.h _ (le_refl _) c.requires.0 c.requires.1 c.loop-i-test.true in
    let t = member_in c.args.w c.args.h c.loop-i.i c.loop-i-test.true in
    omega (arith, c.loop-i.invariant.1.len)

pub loop-i-preserved : goal.loop-i-preserved
loop-i-preserved c = (
  omega arith,
  line_more c.args.h c.args.x c.args.place c.args.j c.loop-i.i c.args.r c.args.q.now _ c.requires.1 c.loop-i.invariant.1 c.by_bytes.ensures,
)

pub shape_of-out : goal.shape_of-out
shape_of-out c = c.loop-i.invariant.1.len

pub returns : goal.returns
returns c =
    let e : c.loop-i.i ≡ c.args.w = omega arith in
    (rw e at c.loop-i.invariant.1).is
