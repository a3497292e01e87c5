use mathlib.Core.Path.{◌≡◌, ◌∙◌}
use Prim.Native.Nat.{ℕ, ◌+◌, min}
use native.Mathlib.Nat.{mul_comm}
use native.Mathlib.Omega.{arith}
use Rattle.ground.specs.Drawn.{drawing_none}
use Rattle.payload.specs.Joining.{ranked_byte}
use Rattle.payload.proofs.Areas.{area_no_column}
use Rattle.payload.proofs.Blocks.{block_in, some_is, columns_more}
use Rattle.payload.proofs.over.columns.Goals as goal

pub loop-c-init : goal.loop-c-init
loop-c-init c =
    let e : min 0 c.args.n ≡ 0 = omega arith in
    (omega arith, rw e (drawing_none _ _ _ (area_no_column _ _ 0 _ 0)))

pub start-r-requires : goal.start-r-requires
start-r-requires c = c.requires.2

-- eight bytes of the sixteenth line end within the two lines behind it
pub read-requires : goal.read-requires
read-requires c =
    let r = c.start-r.result in
    let b = block_in c.args.p c.args.x (r + 15) 0 3 c.args.x (omega arith) (omega (arith, c.requires.0)) (omega (arith, c.start-r.ensures, c.requires.2, c.requires.3)) (omega arith) in
    (omega (arith, c.requires.0), c.requires.1, omega arith, omega (arith, b.members, c.requires.0, c.requires.4, mul_comm c.args.x c.args.p))

pub lay_rows-requires : goal.lay_rows-requires
lay_rows-requires c =
    (c.requires.1, omega (arith, c.start-r.ensures, c.requires.2, c.requires.3), c.loop-c.invariant.1.len ∙ c.requires.5)

pub overflow_add-c : goal.overflow_add-c
overflow_add-c c =
    let b = block_in c.args.p c.args.x 0 0 16 c.args.x (omega arith) (omega (arith, c.requires.0)) (omega (arith, c.requires.2, c.requires.3)) (omega arith) in
    omega (arith, b.ranks, c.requires.3, c.requires.4, mul_comm c.args.x c.args.p)

pub loop-c-preserved : goal.loop-c-preserved
loop-c-preserved c =
    let m : ℕ → ℕ → ℕ = ranked_byte c.args.x c.args.frame.now in
    let r = c.start-r.result in
    let i = c.loop-c.c in
    let e = c.start-r.ensures in (
      omega arith,
      columns_more c.args.p 0 m 0 c.args.x (min i c.args.n) r 16 (min (i + 16) c.args.n) _ (omega arith) (omega arith) (omega (arith, c.requires.2)) c.loop-c.invariant.1
          (some_is c.args.p 0 m c.args.x 16 8 0 r _ _ c.loop-c.members _ c.requires.1 c.read.ensures c.lay_rows.ensures),
    )

pub shape_of-members : goal.shape_of-members
shape_of-members c = c.loop-c.invariant.1.len

pub returns : goal.returns
returns c =
    let e : min c.loop-c.c c.args.n ≡ c.args.n = omega arith in
    rw e at c.loop-c.invariant.1.is
