use mathlib.Core.Path.{◌≡◌, ap}
use Prim.Native.Nat.{ℕ, ◌+◌}
use native.Mathlib.Omega.{arith}
use lib.ListN.{get_or}
use Rattle.payload.specs.Joining.{started_byte}
use Rattle.payload.proofs.Blocks.{rows_none, row_more}
use Rattle.payload.proofs.Frames.{member_in}
use Rattle.payload.proofs.block.read_started.Goals as goal

pub loop-l-init : goal.loop-l-init
loop-l-init c = (omega arith, rows_none _ _ _ _ _)

pub overflow_add-from-in-loop-l : goal.overflow_add-from-in-loop-l
overflow_add-from-in-loop-l c = let s = c.requires.2 c.loop-l.l c.loop-l-test.true in omega arith

pub overflow_mul-l : goal.overflow_mul-l
overflow_mul-l c = let t = member_in c.args.h c.args.w c.loop-l.l c.loop-l-test.true in omega arith

pub by_bytes-requires : goal.by_bytes-requires
by_bytes-requires c =
    let s = c.requires.2 c.loop-l.l c.loop-l-test.true in
    let t = member_in c.args.h c.args.w c.loop-l.l c.loop-l-test.true in
    omega (arith, c.loop-l.invariant.1.len)

pub loop-l-preserved : goal.loop-l-preserved
loop-l-preserved c =
    let l = c.loop-l.l in
    let t = member_in c.args.h c.args.w l c.loop-l-test.true in (
      omega arith,
      row_more l c.args.w c.args.r c.args.j (started_byte c.args.starts.now c.args.store.now) (λ i. get_or c.args.store.now (get_or c.args.starts.now (c.args.r + l) 0 + c.args.j + i) 0) _ (omega (arith, t)) c.loop-l.invariant.1 c.by_bytes.ensures
          (λ i b. let e : get_or c.args.starts.now (c.args.r + l) 0 + c.args.j + i ≡ get_or c.args.starts.now (c.args.r + l) 0 + (c.args.j + i) = omega arith in ap (λ (k : ℕ). get_or c.args.store.now k 0) e),
    )

pub shape_of-q : goal.shape_of-q
shape_of-q c = c.loop-l.invariant.1.len

pub returns : goal.returns
returns c = let e : c.loop-l.l ≡ c.args.h = omega arith in rw e at c.loop-l.invariant.1
