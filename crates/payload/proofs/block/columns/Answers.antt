use mathlib.Core.Path.{◌≡◌, ◌∙◌}
use Prim.Native.Nat.{◌-◌, ◌+◌, min}
use native.Mathlib.Omega.{arith}
use Rattle.ground.specs.Drawn.{drawing_none}
use Rattle.payload.specs.Joining.{ranked_byte}
use Rattle.payload.proofs.Areas.{area_no_line}
use Rattle.payload.proofs.Blocks.{block_in, lines_more}
use Rattle.payload.proofs.block.columns.Goals as goal

pub loop-c-init : goal.loop-c-init
loop-c-init c =
    let e : min c.args.from c.args.to - c.args.from ≡ 0 = omega arith in
    (omega arith, omega arith, rw e (drawing_none _ _ _ (area_no_line _ _ c.args.from _ _)))

pub block-requires : goal.block-requires
block-requires c =
    (c.requires.0, c.requires.1, omega (arith, c.start-j.ensures), c.requires.4, c.loop-c.invariant.2.len ∙ c.requires.5)

pub overflow_add-c : goal.overflow_add-c
overflow_add-c c =
    let s = c.requires.0 in
    let b = block_in c.args.x c.args.p c.args.r 0 c.args.h c.args.w (omega arith) (omega arith) (omega arith) (omega arith) in
    omega arith

pub loop-c-smaller : goal.loop-c-smaller
loop-c-smaller c = let s = c.requires.0 in omega arith

pub loop-c-preserved : goal.loop-c-preserved
loop-c-preserved c =
    let j = c.start-j.result in
    let i = c.loop-c.c in
    let e = c.start-j.ensures in (
      omega arith,
      omega arith,
      lines_more c.args.x 0 (ranked_byte c.args.p c.args.members.now) c.args.from (min i c.args.to - c.args.from) j c.args.w (min (i + c.args.w) c.args.to - c.args.from) c.args.r c.args.h _ (omega arith) (omega arith) (omega arith) (omega arith) c.loop-c.invariant.2 c.block.ensures,
    )

pub shape_of-frame : goal.shape_of-frame
shape_of-frame c = c.loop-c.invariant.2.len

pub returns : goal.returns
returns c =
    let e : min c.loop-c.c c.args.to - c.args.from ≡ c.args.to - c.args.from = omega arith in
    (rw e at c.loop-c.invariant.2).is
