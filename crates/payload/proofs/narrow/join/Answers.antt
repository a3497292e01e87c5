use mathlib.Core.Path.{◌≡◌, refl, ◌∙◌}
use Prim.Native.Nat.{ℕ, ◌+◌, ◌*◌, min}
use native.Mathlib.Omega.{arith}
use Rattle.ground.specs.Drawn.{drawing_none, fill_at_all}
use Rattle.payload.specs.Joining.{ranked_byte}
use Rattle.payload.specs.Order.{group_byte}
use Rattle.payload.proofs.Areas.{area_no_line}
use Rattle.payload.proofs.Blocks.{block_in, block_is, lines_more, ranked_in}
use Rattle.payload.proofs.Evens.{even_size}
use Rattle.payload.proofs.Frames.{ranks_all}
use Rattle.payload.proofs.narrow.join.Goals as goal

pub loop-c-init : goal.loop-c-init
loop-c-init c =
    let e : min 0 c.args.p ≡ 0 = omega arith in
    (omega arith, rw e (drawing_none _ _ _ (area_no_line _ _ 0 _ _)))

pub start-j-requires : goal.start-j-requires
start-j-requires c = c.requires.1

pub read_ranked-requires : goal.read_ranked-requires
read_ranked-requires c =
    let z = even_size c.args.x c.args.w c.requires.0 in
    (omega (arith, z.3, c.requires.1), omega (arith, z.0), ranked_in c.args.x c.args.p 0 c.start-j.result c.args.x c.args.w _ (omega arith) (omega (arith, c.start-j.ensures, c.requires.1)) c.requires.2)

pub lay-requires : goal.lay-requires
lay-requires c =
    let z = even_size c.args.x c.args.w c.requires.0 in
    let b = block_in c.args.x c.args.p 0 c.start-j.result c.args.x c.args.w (omega (arith, z.2)) (omega (arith, z.3)) (omega arith) (omega (arith, c.start-j.ensures, c.requires.1)) in
    (c.requires.0, omega (arith, b.lines, c.loop-c.invariant.1.len, c.requires.3))

pub overflow_add-c : goal.overflow_add-c
overflow_add-c c =
    let z = even_size c.args.x c.args.w c.requires.0 in
    let b = block_in c.args.x c.args.p 0 0 c.args.x c.args.w (omega (arith, z.2)) (omega (arith, z.3)) (omega arith) (omega (arith, c.requires.1)) in
    omega (arith, b.bytes, z.4, c.requires.2)

pub loop-c-smaller : goal.loop-c-smaller
loop-c-smaller c =
    let z = even_size c.args.x c.args.w c.requires.0 in
    omega (arith, z.3)

pub loop-c-preserved : goal.loop-c-preserved
loop-c-preserved c =
    let z = even_size c.args.x c.args.w c.requires.0 in
    let m : ℕ → ℕ → ℕ = ranked_byte c.args.p c.args.members.now in
    let j = c.start-j.result in
    let i = c.loop-c.c in
    let e = c.start-j.ensures in (
      omega arith,
      lines_more c.args.x 0 m 0 (min i c.args.p) j c.args.w (min (i + c.args.w) c.args.p) 0 c.args.x _ (omega arith) (omega arith) (omega arith) (omega (arith, c.requires.1)) c.loop-c.invariant.1
          (block_is c.args.x 0 m c.args.x c.args.w c.args.x c.args.w j 0 _ _ c.loop-c.frame _ refl refl c.read_ranked.ensures c.lay.ensures),
    )

pub shape_of-frame : goal.shape_of-frame
shape_of-frame c = c.loop-c.invariant.1.len

pub returns : goal.returns
returns c =
    let m : ℕ → ℕ → ℕ = ranked_byte c.args.p c.args.members.now in
    let e : min c.loop-c.c c.args.p ≡ c.args.p = omega arith in
    ranks_all c.args.x c.args.p 0 m (rw e at c.loop-c.invariant.1) ∙ fill_at_all (c.args.x * c.args.p) (group_byte c.args.x m) c.args.frame.now c.requires.3
