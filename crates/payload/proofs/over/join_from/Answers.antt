-- `join_from` meets its contract: a front of all lines but two, and those two behind it (`over_all`).
use Prim.Native.Nat.{ℕ, ◌<◌, ◌≤◌, ◌-◌}
use native.Mathlib.Omega.{arith}
use Rattle.payload.specs.Joining.{started_byte}
use Rattle.payload.specs.Laws.Shifts.{length_rest, store_from}
use Rattle.payload.proofs.Blocks.{BlockIn, block_in}
use Rattle.payload.proofs.Fronts.{over_all, started_rest}
use Rattle.payload.proofs.over.join_from.Goals as goal

last : (x p : ℕ) → 3 ≤ x → 34 ≤ p → BlockIn x p 0 (p - 2) x 2
last x p some long = block_in x p 0 (p - 2) x 2 (omega arith) (omega arith) (omega arith) (omega arith)

pub slice_bounds-join_from-count : goal.slice_bounds-join_from-count
slice_bounds-join_from-count c =
    let b : 0 < c.args.x = omega (arith, c.requires.0) in
    omega (arith, c.requires.2, c.requires.4 0 b)

pub overflow_mul-n : goal.overflow_mul-n
overflow_mul-n c = omega (arith, (last c.args.x c.args.p c.requires.0 c.requires.2).lines, c.requires.5)

pub overflow_add-place : goal.overflow_add-place
overflow_add-place c = omega (arith, (last c.args.x c.args.p c.requires.0 c.requires.2).lines, c.requires.5)

pub join_from-requires : goal.join_from-requires
join_from-requires c =
    let n : ℕ = c.args.p - 2 in
    (c.requires.3, λ r b. omega (arith, length_rest n c.args.store.now, c.requires.4 r b, c.requires.2), omega (arith, (last c.args.x c.args.p c.requires.0 c.requires.2).lines, c.most_lines.ensures.len, c.requires.5, c.requires.2))

pub returns : goal.returns
returns c =
    let n : ℕ = c.args.p - 2 in
    let pos : 0 < c.args.x = omega (arith, c.requires.0) in
    over_all c.args.x n c.args.p (started_byte c.args.starts.now c.args.store.now) (started_byte c.args.starts.now (store_from n c.args.store.now)) _ (omega (arith, c.requires.2)) pos c.requires.5
    c.most_lines.ensures c.join_from.ensures (λ r i. started_rest n c.args.store.now c.args.starts.now r i)
