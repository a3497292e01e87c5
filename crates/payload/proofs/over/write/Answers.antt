use mathlib.Core.Path.{◌≡◌}
use Prim.Native.Nat.{ℕ, ◌≤◌, ◌<◌, ◌+◌, ◌*◌}
use native.Mathlib.Nat.{mul-le-mul_right}
use native.Mathlib.Omega.{arith}
use Rattle.payload.proofs.Fronts.{front_none, over_more}
use Rattle.payload.proofs.over.write.Goals as goal

-- a line's eight bytes end no later than those of the last line
inside : (at x l to : ℕ) → l < 16 → to ≡ at + l * x → to + 8 ≤ at + 15 * x + 8
inside at x l to few is =
    let b : l ≤ 15 = omega arith in
    omega (arith, mul-le-mul_right x b, is)

pub loop-l-init : goal.loop-l-init
loop-l-init c = let z : 0 * c.args.x ≡ 0 = omega arith in (omega arith, omega arith, rw z (front_none _ _ _ _))

pub by_bytes-requires : goal.by_bytes-requires
by_bytes-requires c = (omega arith, omega (arith, inside c.args.at c.args.x c.loop-l.l c.loop-l.to c.loop-l-test.true c.loop-l.invariant.1, c.loop-l.invariant.2.len, c.requires.3))

pub overflow_add-to : goal.overflow_add-to
overflow_add-to c = omega (arith, inside c.args.at c.args.x c.loop-l.l c.loop-l.to c.loop-l-test.true c.loop-l.invariant.1, c.requires.3)

pub loop-l-preserved : goal.loop-l-preserved
loop-l-preserved c =
    let s = inside c.args.at c.args.x c.loop-l.l c.loop-l.to c.loop-l-test.true c.loop-l.invariant.1 in
    let l = c.loop-l.l in
    let e = c.loop-l.invariant.1 in (
      omega arith,
      omega (arith, e),
      over_more c.args.x l c.loop-l.to c.args.q.now _ c.requires.1 e s (omega (arith, s, c.requires.3)) c.loop-l.invariant.2 c.by_bytes.ensures,
    )

pub shape_of-out : goal.shape_of-out
shape_of-out c = c.loop-l.invariant.2.len

pub returns : goal.returns
returns c = let e : c.loop-l.l ≡ 16 = omega arith in rw e at c.loop-l.invariant.2
