use mathlib.Core.Path.{◌≡◌}
use Prim.Native.Nat.{ℕ, ◌+◌, ◌*◌, min}
use native.Mathlib.Omega.{arith}
use Rattle.payload.specs.Joining.{started_byte}
use Rattle.payload.proofs.Fronts.{front_none, over_three}
use Rattle.payload.proofs.over.three.Goals as goal

pub loop-c-init : goal.loop-c-init
loop-c-init c =
    let e : min 0 c.args.n * 3 ≡ 0 = omega arith in
    (omega arith, rw e (front_none _ _ _ _))

pub start-j-requires : goal.start-j-requires
start-j-requires c = c.requires.0

pub read_started-requires : goal.read_started-requires
read_started-requires c =
    (omega arith, omega (arith, c.requires.2), λ l b. let f : 0 + l ≡ l = omega arith in rw f (omega (arith, c.start-j.ensures, c.requires.0, c.requires.1, c.requires.3 l b)))

pub overflow_mul-j : goal.overflow_mul-j
overflow_mul-j c = let h = c.requires in omega (arith, c.start-j.ensures, h.0, h.1, h.4)

pub overflow_add-place : goal.overflow_add-place
overflow_add-place c = let h = c.requires in omega (arith, c.start-j.ensures, h.0, h.1, h.4)

pub lay-requires : goal.lay-requires
lay-requires c =
    (omega arith, omega arith, omega (arith, c.start-j.ensures, c.requires.0, c.requires.1, c.requires.4, c.loop-c.invariant.1.len))

pub overflow_add-c : goal.overflow_add-c
overflow_add-c c = let h = c.requires in omega (arith, h.1, h.4)

pub loop-c-preserved : goal.loop-c-preserved
loop-c-preserved c =
    let m : ℕ → ℕ → ℕ = started_byte c.args.starts.now c.args.store.now in
    let j = c.start-j.result in
    let i = c.loop-c.c in
    let e = c.start-j.ensures in (
      omega arith,
      over_three j (min i c.args.n) (min (i + 32) c.args.n) (c.args.place + j * 3 + 15 * 6 + 8) m _ _ _ _ (omega arith) (omega (arith, c.requires.0)) c.read_started.ensures c.dealt-s.ensures c.loop-c.invariant.1
          c.lay.ensures (omega (arith, e, c.requires.0, c.requires.1)),
    )

pub shape_of-out : goal.shape_of-out
shape_of-out c = c.loop-c.invariant.1.len

pub returns : goal.returns
returns c =
    let e : min c.loop-c.c c.args.n ≡ c.args.n = omega arith in
    rw e at c.loop-c.invariant.1
