use mathlib.Core.Path.{◌≡◌}
use Prim.Native.Nat.{◌+◌, min}
use native.Mathlib.Omega.{arith}
use Rattle.ground.specs.Drawn.{drawing_none}
use Rattle.payload.specs.Joining.{started_byte}
use Rattle.payload.proofs.Areas.{area_no_line}
use Rattle.payload.proofs.Blocks.{block_in, lines_more}
use Rattle.payload.proofs.block.columns_from.Goals as goal

pub loop-c-init : goal.loop-c-init
loop-c-init c =
    let e : min 0 c.args.p ≡ 0 = omega arith in
    (omega arith, rw e (drawing_none _ _ _ (area_no_line _ _ 0 _ _)))

pub block_from-requires : goal.block_from-requires
block_from-requires c =
    let s = c.requires.0 in
    let e = c.start-j.ensures in
    let b = block_in c.args.x c.args.p c.args.r c.start-j.result c.args.h 16 (omega arith) (omega arith) (omega arith) (omega arith) in
    (c.requires.0, c.requires.1, c.requires.3, λ l k. omega (arith, e, c.requires.4 (c.args.r + l) (omega (arith, k))), omega (arith, c.loop-c.invariant.1.len))

pub overflow_add-c : goal.overflow_add-c
overflow_add-c c =
    let s = c.requires.0 in
    let b = block_in c.args.x c.args.p c.args.r 0 c.args.h 16 (omega arith) (omega arith) (omega arith) (omega arith) in
    omega arith

pub loop-c-preserved : goal.loop-c-preserved
loop-c-preserved c =
    let j = c.start-j.result in
    let i = c.loop-c.c in
    let e = c.start-j.ensures in (
      omega arith,
      lines_more c.args.x c.args.place (started_byte c.args.starts.now c.args.store.now) 0 (min i c.args.p) j 16 (min (i + 16) c.args.p) c.args.r c.args.h _ (omega arith) (omega arith) (omega arith) (omega arith) c.loop-c.invariant.1 c.block_from.ensures,
    )

pub shape_of-out : goal.shape_of-out
shape_of-out c = c.loop-c.invariant.1.len

pub returns : goal.returns
returns c =
    let e : min c.loop-c.c c.args.p ≡ c.args.p = omega arith in
    (rw e at c.loop-c.invariant.1).is
