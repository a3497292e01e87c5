use mathlib.Core.Path.{◌≡◌, ap}
use Prim.Native.Nat.{ℕ, ◌+◌, ◌*◌}
use native.Mathlib.Omega.{arith}
use lib.ListN.{get_or}
use Rattle.payload.specs.Joining.{ranked_byte}
use Rattle.payload.proofs.Blocks.{row_in_lem, rows_none, row_more}
use Rattle.payload.proofs.block.read_ranked.Goals as goal

pub loop-l-init : goal.loop-l-init
loop-l-init c = (omega arith, rows_none _ _ _ _ _)

pub overflow_add-r : goal.overflow_add-r
overflow_add-r c = let s = row_in_lem _ _ _ _ _ _ _ _ c.requires.0 c.requires.1 c.loop-l-test.true (c.requires.2 c.loop-l.l c.loop-l-test.true) in omega arith

pub overflow_mul-r : goal.overflow_mul-r
overflow_mul-r c = let s = row_in_lem _ _ _ _ _ _ _ _ c.requires.0 c.requires.1 c.loop-l-test.true (c.requires.2 c.loop-l.l c.loop-l-test.true) in omega arith

pub overflow_add-r-in-loop-l : goal.overflow_add-r-in-loop-l
overflow_add-r-in-loop-l c = let s = row_in_lem _ _ _ _ _ _ _ _ c.requires.0 c.requires.1 c.loop-l-test.true (c.requires.2 c.loop-l.l c.loop-l-test.true) in omega arith

pub overflow_mul-l : goal.overflow_mul-l
overflow_mul-l c = let s = row_in_lem _ _ _ _ _ _ _ _ c.requires.0 c.requires.1 c.loop-l-test.true (c.requires.2 c.loop-l.l c.loop-l-test.true) in omega arith

pub by_bytes-requires : goal.by_bytes-requires
by_bytes-requires c = let s = row_in_lem _ _ _ _ _ _ _ _ c.requires.0 c.requires.1 c.loop-l-test.true (c.requires.2 c.loop-l.l c.loop-l-test.true) in omega (arith, c.loop-l.invariant.1.len)

pub loop-l-preserved : goal.loop-l-preserved
loop-l-preserved c =
    let l = c.loop-l.l in
    let s = row_in_lem _ _ _ _ _ _ _ _ c.requires.0 c.requires.1 c.loop-l-test.true (c.requires.2 c.loop-l.l c.loop-l-test.true) in (
      omega arith,
      row_more l c.args.w c.args.r c.args.j (ranked_byte c.args.p c.args.members.now) (λ i. get_or c.args.members.now ((c.args.r + l) * c.args.p + c.args.j + i) 0) _ s.to c.loop-l.invariant.1 c.by_bytes.ensures
          (λ i b. let e : (c.args.r + l) * c.args.p + c.args.j + i ≡ (c.args.r + l) * c.args.p + (c.args.j + i) = omega arith in ap (λ (k : ℕ). get_or c.args.members.now k 0) e),
    )

pub shape_of-q : goal.shape_of-q
shape_of-q c = c.loop-l.invariant.1.len

pub returns : goal.returns
returns c = let e : c.loop-l.l ≡ c.args.h = omega arith in rw e at c.loop-l.invariant.1
