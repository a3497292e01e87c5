use mathlib.Core.Path.{◌≡◌, refl}
use Prim.Native.Nat.{ℕ, ◌<◌, ◌+◌, min}
use native.Mathlib.Omega.{arith}
use lib.ListN.{length}
use Rattle.ground.specs.Drawn.{drawing_none}
use Rattle.payload.specs.Joining.{started_byte}
use Rattle.payload.proofs.Areas.{area_no_line}
use Rattle.payload.proofs.Blocks.{block_in, block_is, lines_more}
use Rattle.payload.proofs.Evens.{even_few, even_size}
use Rattle.payload.proofs.Frames.{ranks_all}
use Rattle.payload.proofs.Starts.{own_count, own_in_lem, own_rows_lem}
use Rattle.payload.proofs.narrow.join_from.Goals as goal

pub few_of-own-requires : goal.few_of-own-requires
few_of-own-requires c =
    let z = even_size c.args.x c.args.w c.requires.0 in
    (omega (arith, z.2), c.requires.2)

pub loop-c-init : goal.loop-c-init
loop-c-init c =
    let e : min 0 c.args.p ≡ 0 = omega arith in
    (omega arith, rw e (drawing_none _ _ _ (area_no_line _ _ 0 _ _)))

pub start-j-requires : goal.start-j-requires
start-j-requires c = c.requires.1

pub read_started-requires : goal.read_started-requires
read_started-requires c =
    let z = even_size c.args.x c.args.w c.requires.0 in
    let few = even_few c.args.x c.args.w c.requires.0 in
    let pos : 0 < c.args.x = omega (arith, z.2) in (
      omega (arith, z.0),
      omega (arith, few, own_count c.args.x c.args.starts.now c.few_of-own.result c.few_of-own.ensures),
      λ l b. let f : 0 + l ≡ l = omega arith in
          let low : l < 8 = omega (arith, b, few) in
          rw f (omega (arith, c.start-j.ensures, c.requires.1, own_in_lem c.args.x c.args.starts.now c.few_of-own.result c.few_of-own.ensures c.args.p (length c.args.store.now) pos c.requires.3 l low)),
    )

pub lay-requires : goal.lay-requires
lay-requires c =
    let z = even_size c.args.x c.args.w c.requires.0 in
    let b = block_in c.args.x c.args.p 0 c.start-j.result c.args.x c.args.w (omega (arith, z.2)) (omega (arith, z.3)) (omega arith) (omega (arith, c.start-j.ensures, c.requires.1)) in
    (c.requires.0, omega (arith, b.lines, c.loop-c.invariant.1.len, c.requires.4))

pub overflow_add-c : goal.overflow_add-c
overflow_add-c c =
    let z = even_size c.args.x c.args.w c.requires.0 in
    let b = block_in c.args.x c.args.p 0 0 c.args.x c.args.w (omega (arith, z.2)) (omega (arith, z.3)) (omega arith) (omega (arith, c.requires.1)) in
    omega (arith, b.bytes, z.4, c.requires.4)

pub loop-c-smaller : goal.loop-c-smaller
loop-c-smaller c =
    let z = even_size c.args.x c.args.w c.requires.0 in
    omega (arith, z.3)

pub loop-c-preserved : goal.loop-c-preserved
loop-c-preserved c =
    let z = even_size c.args.x c.args.w c.requires.0 in
    let m : ℕ → ℕ → ℕ = started_byte c.args.starts.now c.args.store.now in
    let j = c.start-j.result in
    let i = c.loop-c.c in
    let e = c.start-j.ensures in
    let rows = own_rows_lem c.args.x c.args.starts.now c.few_of-own.result c.few_of-own.ensures c.args.x c.args.w j c.args.store.now _ _ (omega arith) (even_few c.args.x c.args.w c.requires.0) c.read_started.ensures in (
      omega arith,
      lines_more c.args.x c.args.place m 0 (min i c.args.p) j c.args.w (min (i + c.args.w) c.args.p) 0 c.args.x _ (omega arith) (omega arith) (omega arith) (omega (arith, c.requires.1)) c.loop-c.invariant.1
          (block_is c.args.x c.args.place m c.args.x c.args.w c.args.x c.args.w j 0 _ _ c.loop-c.out _ refl refl rows c.lay.ensures),
    )

pub shape_of-out : goal.shape_of-out
shape_of-out c = c.loop-c.invariant.1.len

pub returns : goal.returns
returns c =
    let e : min c.loop-c.c c.args.p ≡ c.args.p = omega arith in
    ranks_all c.args.x c.args.p c.args.place (started_byte c.args.starts.now c.args.store.now) (rw e at c.loop-c.invariant.1)
