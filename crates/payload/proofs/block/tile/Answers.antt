use mathlib.Core.Path.{◌≡◌, ◌∙◌}
use Prim.Native.Nat.{◌-◌, ◌+◌, min}
use native.Mathlib.Omega.{arith}
use Rattle.ground.specs.Drawn.{drawing_none}
use Rattle.payload.specs.Joining.{ranked_byte}
use Rattle.payload.proofs.Areas.{area_no_column}
use Rattle.payload.proofs.Blocks.{block_in, columns_more}
use Rattle.payload.proofs.block.tile.Goals as goal

pub loop-c-init : goal.loop-c-init
loop-c-init c =
    let e : min 0 c.args.x ≡ 0 = omega arith in
    (omega arith, rw e (drawing_none _ _ _ (area_no_column _ _ _ _ 0)))

pub columns-requires : goal.columns-requires
columns-requires c =
    (c.requires.0, omega (arith, c.start-r.ensures), c.requires.2, c.requires.3, c.requires.4, c.loop-c.invariant.1.len ∙ c.requires.5)

pub overflow_add-c : goal.overflow_add-c
overflow_add-c c =
    let s = c.requires.0 in
    let b = block_in c.args.x c.args.p 0 0 c.args.h c.args.w (omega arith) (omega arith) (omega arith) (omega arith) in
    omega arith

pub loop-c-smaller : goal.loop-c-smaller
loop-c-smaller c = let s = c.requires.0 in omega arith

pub loop-c-preserved : goal.loop-c-preserved
loop-c-preserved c =
    let r = c.start-r.result in
    let i = c.loop-c.c in
    let e = c.start-r.ensures in (
      omega arith,
      columns_more c.args.x 0 (ranked_byte c.args.p c.args.members.now) c.args.from (c.args.to - c.args.from) (min i c.args.x) r c.args.h (min (i + c.args.h) c.args.x) _ (omega arith) (omega arith) (omega arith) c.loop-c.invariant.1 c.columns.ensures,
    )

pub shape_of-frame : goal.shape_of-frame
shape_of-frame c = c.loop-c.invariant.1.len

pub returns : goal.returns
returns c =
    let e : min c.loop-c.c c.args.x ≡ c.args.x = omega arith in
    (rw e at c.loop-c.invariant.1).is
