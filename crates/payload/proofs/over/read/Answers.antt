use mathlib.Core.Path.{◌≡◌, ap}
use mathlib.Core.List.{List}
use Prim.Native.Nat.{ℕ, ◌≤◌, ◌<◌, ◌+◌, ◌*◌, ◌%◌}
use native.Mathlib.Nat.{mul-le-mul_right}
use native.Mathlib.Omega.{arith}
use lib.ListN.{length, get_or}
use Rattle.ground.specs.Drawn.{fill_at}
use Rattle.payload.specs.Inner.Block.{Rows}
use Rattle.payload.specs.Joining.{ranked_byte}
use Rattle.payload.proofs.Blocks.{rows_none, row_more}
use Rattle.payload.proofs.over.read.Goals as goal

-- both lines lie within the frame
inside : (r x l from n : ℕ) → l < 16 → l % 2 ≡ 0 → from ≡ (r + l) * x → (r + 15) * x + 8 ≤ n → from + x + 8 ≤ n
inside r x l from n few even is fits =
    let b : r + (l + 1) ≤ r + 15 = omega arith in
    omega (arith, mul-le-mul_right x b, is, fits)

-- one line more
line : (r x l from : ℕ) (frame : List ℕ) {d mid : List ℕ} (out : List ℕ) → l * 8 + 8 ≤ length d → from ≡ (r + l) * x
    → Rows l 8 (ranked_byte x frame) r 0 d mid → out ≡ fill_at (l * 8) 8 (λ i. get_or frame (from + i) 0) mid → Rows (l + 1) 8 (ranked_byte x frame) r 0 d out
line r x l from frame out fits is rows e =
    row_more l 8 r 0 (ranked_byte x frame) (λ i. get_or frame (from + i) 0) out fits rows e
    (λ i b. let s : from + i ≡ (r + l) * x + (0 + i) = omega (arith, is) in ap (λ (k : ℕ). get_or frame k 0) s)

pub overflow_mul-from : goal.overflow_mul-from
overflow_mul-from c =
    let b : c.args.r ≤ c.args.r + 15 = omega arith in
    omega (arith, mul-le-mul_right c.args.x b)

pub loop-l-init : goal.loop-l-init
loop-l-init c = (omega arith, omega arith, omega arith, rows_none _ _ _ _ _)

pub by_bytes-requires : goal.by_bytes-requires
by_bytes-requires c = (omega (arith, inside c.args.r c.args.x c.loop-l.l c.loop-l.from (length c.args.frame.now) c.loop-l-test.true c.loop-l.invariant.1 c.loop-l.invariant.2 c.requires.3), omega (arith, c.loop-l.invariant.3.len))

pub overflow_add-from : goal.overflow_add-from
overflow_add-from c = omega (arith, inside c.args.r c.args.x c.loop-l.l c.loop-l.from (length c.args.frame.now) c.loop-l-test.true c.loop-l.invariant.1 c.loop-l.invariant.2 c.requires.3)

pub by_bytes-requires-in-loop-l : goal.by_bytes-requires-in-loop-l
by_bytes-requires-in-loop-l c = (omega (arith, inside c.args.r c.args.x c.loop-l.l c.loop-l.from (length c.args.frame.now) c.loop-l-test.true c.loop-l.invariant.1 c.loop-l.invariant.2 c.requires.3), omega (arith, (line c.args.r c.args.x c.loop-l.l c.loop-l.from c.args.frame.now _ (omega arith) c.loop-l.invariant.2 c.loop-l.invariant.3 c.by_bytes.ensures).len))

pub overflow_add-from-in-loop-l : goal.overflow_add-from-in-loop-l
overflow_add-from-in-loop-l c = omega (arith, inside c.args.r c.args.x c.loop-l.l c.loop-l.from (length c.args.frame.now) c.loop-l-test.true c.loop-l.invariant.1 c.loop-l.invariant.2 c.requires.3)

pub loop-l-preserved : goal.loop-l-preserved
loop-l-preserved c =
    let l = c.loop-l.l in
    let e = c.loop-l.invariant.2 in
    let two : l + 1 + 1 ≡ l + 2 = omega arith in
    let first = line c.args.r c.args.x l c.loop-l.from c.args.frame.now _ (omega arith) e c.loop-l.invariant.3 c.by_bytes.ensures in (
      omega (arith, c.loop-l.invariant.1),
      omega (arith, c.loop-l.invariant.1),
      omega (arith, e),
      rw two at (line c.args.r c.args.x (l + 1) (c.loop-l.from + c.args.x) c.args.frame.now _ (omega (arith, c.loop-l.invariant.1)) (omega (arith, e)) first c.by_bytes-in-loop-l.ensures),
    )

pub shape_of-q : goal.shape_of-q
shape_of-q c = c.loop-l.invariant.3.len

pub returns : goal.returns
returns c = let e : c.loop-l.l ≡ 16 = omega arith in rw e at c.loop-l.invariant.3
