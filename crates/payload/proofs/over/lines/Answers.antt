use mathlib.Core.Path.{◌≡◌}
use Prim.Native.Nat.{ℕ, ◌≤◌, ◌<◌, ◌-◌, ◌+◌, ◌*◌, min}
use native.Mathlib.Nat.{mul-le-mul_right}
use native.Mathlib.Omega.{arith}
use lib.ListN.{length}
use Rattle.payload.specs.Joining.{started_byte}
use Rattle.payload.proofs.Blocks.{block_in}
use Rattle.payload.proofs.Fronts.{front_none, over_lines}
use Rattle.payload.proofs.Starts.{own_count, own_in_lem, own_rows_lem}
use Rattle.payload.proofs.over.lines.Goals as goal

-- eight bytes of the sixteenth line end within the two lines behind it
inside : (place x p n j c : ℕ) → 3 ≤ x → 16 ≤ n → n + 2 ≤ p → j ≡ min c (n - 16) → place + j * x + 15 * x + 8 ≤ place + x * p
inside place x p n j c some least long is =
    let b = block_in x p 0 (j + 15) x 3 (omega arith) (omega arith) (omega arith) (omega arith) in
    omega (arith, b.lines)

pub few_of-own-requires : goal.few_of-own-requires
few_of-own-requires c =
    (omega (arith, c.requires.0), c.requires.4)

pub loop-c-init : goal.loop-c-init
loop-c-init c =
    let e : min 0 c.args.n ≡ 0 = omega arith in
    let z : 0 * c.args.x ≡ 0 = omega arith in
    (omega arith, rw (e, z) (front_none _ _ _ _))

pub start-j-requires : goal.start-j-requires
start-j-requires c = c.requires.2

pub read_started-requires : goal.read_started-requires
read_started-requires c =
    let pos : 0 < c.args.x = omega (arith, c.requires.0) in (
      omega arith,
      omega (arith, own_count c.args.x c.args.starts.now c.few_of-own.result c.few_of-own.ensures),
      λ l b. let f : 0 + l ≡ l = omega arith in
          rw f (omega (arith, c.start-j.ensures, c.requires.2, c.requires.3, own_in_lem c.args.x c.args.starts.now c.few_of-own.result c.few_of-own.ensures c.args.p (length c.args.store.now) pos c.requires.5 l b)),
    )

pub overflow_mul-j : goal.overflow_mul-j
overflow_mul-j c = omega (arith, inside c.args.place c.args.x c.args.p c.args.n c.start-j.result c.loop-c.c c.requires.0 c.requires.2 c.requires.3 c.start-j.ensures, c.requires.6)

pub overflow_add-place : goal.overflow_add-place
overflow_add-place c = omega (arith, inside c.args.place c.args.x c.args.p c.args.n c.start-j.result c.loop-c.c c.requires.0 c.requires.2 c.requires.3 c.start-j.ensures, c.requires.6)

pub lay-requires : goal.lay-requires
lay-requires c =
    (omega (arith, c.requires.0), c.requires.1, omega (arith, inside c.args.place c.args.x c.args.p c.args.n c.start-j.result c.loop-c.c c.requires.0 c.requires.2 c.requires.3 c.start-j.ensures, c.requires.6, c.loop-c.invariant.1.len))

pub overflow_add-c : goal.overflow_add-c
overflow_add-c c =
    let b = block_in c.args.x c.args.p 0 0 c.args.x 16 (omega (arith, c.requires.0)) (omega arith) (omega arith) (omega (arith, c.requires.2, c.requires.3)) in
    omega (arith, b.bytes, c.requires.3, c.requires.6)

pub loop-c-preserved : goal.loop-c-preserved
loop-c-preserved c =
    let m : ℕ → ℕ → ℕ = started_byte c.args.starts.now c.args.store.now in
    let j = c.start-j.result in
    let i = c.loop-c.c in
    let e = c.start-j.ensures in
    let low : j ≤ min i c.args.n = omega arith in
    let pos : 0 < c.args.x = omega (arith, c.requires.0) in
    let rows = own_rows_lem c.args.x c.args.starts.now c.few_of-own.result c.few_of-own.ensures 8 16 j c.args.store.now _ _ c.requires.1 (omega arith) c.read_started.ensures in (
      omega arith,
      over_lines c.args.x j (min i c.args.n) (min (i + 16) c.args.n) (c.args.place + j * c.args.x + 15 * c.args.x + 8) m _ _ _ pos low (omega (arith, c.requires.2)) rows c.loop-c.invariant.1 c.lay.ensures
          (mul-le-mul_right c.args.x low) (inside c.args.place c.args.x c.args.p c.args.n j i c.requires.0 c.requires.2 c.requires.3 e),
    )

pub shape_of-out : goal.shape_of-out
shape_of-out c = c.loop-c.invariant.1.len

pub returns : goal.returns
returns c =
    let e : min c.loop-c.c c.args.n ≡ c.args.n = omega arith in
    rw e at c.loop-c.invariant.1
