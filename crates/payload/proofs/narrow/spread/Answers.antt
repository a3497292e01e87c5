use mathlib.Core.Path.{◌≡◌, refl, sym, ◌∙◌}
use Prim.Native.Nat.{ℕ, ◌+◌, ◌*◌, min}
use native.Mathlib.Nat.{mul_comm}
use native.Mathlib.Omega.{arith}
use lib.ListN.{replicate}
use Rattle.ground.specs.Drawn.{drawing_none, fill_at_all}
use Rattle.payload.specs.Joining.{ranked_byte}
use Rattle.payload.specs.Order.{group_byte}
use Rattle.payload.proofs.Areas.{area_no_column}
use Rattle.payload.proofs.Blocks.{block_in, block_is, columns_more}
use Rattle.payload.proofs.Evens.{even_size, run_rows}
use Rattle.payload.proofs.Frames.{ranks_all, spread_by_lines}
use Rattle.payload.proofs.narrow.spread.Goals as goal

pub loop-c-init : goal.loop-c-init
loop-c-init c =
    let e : min 0 c.args.p ≡ 0 = omega arith in
    (omega arith, rw e (drawing_none _ _ _ (area_no_column _ _ 0 _ 0)))

pub start-r-requires : goal.start-r-requires
start-r-requires c = c.requires.1

pub overflow_mul-r : goal.overflow_mul-r
overflow_mul-r c =
    let z = even_size c.args.x c.args.h c.requires.0 in
    let b = block_in c.args.p c.args.x c.start-r.result 0 c.args.h c.args.x (omega (arith, z.3)) (omega (arith, z.2)) (omega (arith, c.start-r.ensures, c.requires.1)) (omega arith) in
    omega (arith, b.members, c.requires.2, mul_comm c.args.x c.args.p)

pub by_bytes-requires : goal.by_bytes-requires
by_bytes-requires c =
    let z = even_size c.args.x c.args.h c.requires.0 in
    let b = block_in c.args.p c.args.x c.start-r.result 0 c.args.h c.args.x (omega (arith, z.3)) (omega (arith, z.2)) (omega (arith, c.start-r.ensures, c.requires.1)) (omega arith) in
    (omega (arith, b.members, z.1, c.requires.2, mul_comm c.args.x c.args.p), omega arith)

pub lay_rows-requires : goal.lay_rows-requires
lay_rows-requires c =
    let z = even_size c.args.x c.args.h c.requires.0 in
    (c.requires.0, omega (arith, c.start-r.ensures, c.requires.1), c.loop-c.invariant.1.len ∙ c.requires.3)

pub overflow_add-c : goal.overflow_add-c
overflow_add-c c =
    let z = even_size c.args.x c.args.h c.requires.0 in
    let b = block_in c.args.p c.args.x 0 0 c.args.h c.args.x (omega (arith, z.3)) (omega (arith, z.2)) (omega (arith, c.requires.1)) (omega arith) in
    omega (arith, b.ranks, z.4, c.requires.2, mul_comm c.args.x c.args.p)

pub loop-c-smaller : goal.loop-c-smaller
loop-c-smaller c =
    let z = even_size c.args.x c.args.h c.requires.0 in
    omega (arith, z.3)

pub loop-c-preserved : goal.loop-c-preserved
loop-c-preserved c =
    let z = even_size c.args.x c.args.h c.requires.0 in
    let m : ℕ → ℕ → ℕ = ranked_byte c.args.x c.args.frame.now in
    let r = c.start-r.result in
    let i = c.loop-c.c in
    let lines = run_rows c.args.x r c.args.h 128 c.args.frame.now {d = replicate 128 0} _ c.by_bytes.ensures (sym z.1) (omega arith) in
    let e = c.start-r.ensures in (
      omega arith,
      columns_more c.args.p 0 m 0 c.args.x (min i c.args.p) r c.args.h (min (i + c.args.h) c.args.p) _ (omega arith) (omega arith) (omega (arith, c.requires.1)) c.loop-c.invariant.1
          (block_is c.args.p 0 m c.args.h c.args.x c.args.h c.args.x 0 r _ _ c.loop-c.members _ refl refl lines c.lay_rows.ensures),
    )

pub shape_of-members : goal.shape_of-members
shape_of-members c = c.loop-c.invariant.1.len

pub returns : goal.returns
returns c =
    let m : ℕ → ℕ → ℕ = ranked_byte c.args.x c.args.frame.now in
    let e : min c.loop-c.c c.args.p ≡ c.args.p = omega arith in
    spread_by_lines c.args.x c.args.p c.args.frame.now _
    (ranks_all c.args.p c.args.x 0 m (rw e at c.loop-c.invariant.1) ∙ fill_at_all (c.args.p * c.args.x) (group_byte c.args.p m) c.args.members.now (c.requires.3 ∙ mul_comm c.args.x c.args.p))
