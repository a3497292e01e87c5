use mathlib.Core.Path.{◌≡◌, ◌∙◌}
use Prim.Native.Nat.{ℕ, ◌-◌, ◌+◌, ◌*◌, min}
use native.Mathlib.Omega.{arith}
use Rattle.ground.specs.Drawn.{drawing_none, fill_at_all}
use Rattle.payload.specs.Joining.{ranked_byte}
use Rattle.payload.specs.Order.{group_byte}
use Rattle.payload.proofs.Areas.{area_no_line}
use Rattle.payload.proofs.Blocks.{block_in, lines_more}
use Rattle.payload.proofs.Frames.{ranks_all}
use Rattle.payload.proofs.block.join.Goals as goal

pub loop-c-init : goal.loop-c-init
loop-c-init c =
    let e : min 0 c.args.p ≡ 0 = omega arith in
    (omega arith, rw e (drawing_none _ _ _ (area_no_line _ _ 0 _ _)))

pub tile-requires : goal.tile-requires
tile-requires c =
    let s = c.requires.0 in
    let e = c.start-from.ensures in
    let f = c.tile_end-to.ensures in
    (c.requires.0, c.requires.1, omega arith, omega arith, c.requires.3, c.loop-c.invariant.1.len ∙ c.requires.4)

pub overflow_add-c : goal.overflow_add-c
overflow_add-c c =
    let s = c.requires.0 in
    let b = block_in c.args.x c.args.p 0 0 c.args.h c.args.w (omega arith) (omega arith) (omega arith) (omega arith) in
    omega arith

pub loop-c-preserved : goal.loop-c-preserved
loop-c-preserved c =
    let s = c.requires.0 in
    let l = c.start-from.result in
    let to = c.tile_end-to.result in
    let i = c.loop-c.c in
    let e = c.start-from.ensures in
    let f = c.tile_end-to.ensures in (
      omega arith,
      lines_more c.args.x 0 (ranked_byte c.args.p c.args.members.now) 0 (min i c.args.p) l (to - l) (min (i + 256) c.args.p) 0 c.args.x _ (omega arith) (omega arith) (omega arith) (omega arith) c.loop-c.invariant.1 c.tile.ensures,
    )

pub shape_of-frame : goal.shape_of-frame
shape_of-frame c = c.loop-c.invariant.1.len

pub returns : goal.returns
returns c =
    let m : ℕ → ℕ → ℕ = ranked_byte c.args.p c.args.members.now in
    let e : min c.loop-c.c c.args.p ≡ c.args.p = omega arith in
    ranks_all c.args.x c.args.p 0 m (rw e at c.loop-c.invariant.1) ∙ fill_at_all (c.args.x * c.args.p) (group_byte c.args.x m) c.args.frame.now c.requires.4
