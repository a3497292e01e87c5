-- `spread` meets its contract: the frame's lines are joined, two of them by themselves (`rank_more`, `spread_by_lines`).
use mathlib.Core.Path.{◌≡◌, refl, ◌∙◌}
use Prim.Native.Nat.{ℕ, ◌+◌, ◌-◌, ◌*◌, ◌≤◌, ◌<◌}
use native.Mathlib.Nat.{mul_comm}
use native.Mathlib.Omega.{arith}
use lib.ListN.{length, get_or}
use Rattle.ground.specs.Drawn.{drawing, fill_at_all}
use Rattle.payload.specs.Inner.Area.{area}
use Rattle.payload.specs.Joining.{ranked_byte}
use Rattle.payload.specs.Order.{group_byte}
use Rattle.payload.proofs.Frames.{member_in, rank_more, ranks_all, spread_by_lines}
use Rattle.payload.proofs.over.spread.Goals as goal

-- one of the last two lines
line : (x p n i : ℕ) → 18 ≤ p → n ≡ x * p → i < 2 → (p - 2 + i) * x + x ≤ n
line x p n i long is b = omega (arith, member_in p x (p - 2 + i) (omega arith), is, mul_comm x p)

pub columns-requires : goal.columns-requires
columns-requires c =
    (c.requires.0, c.requires.1, omega (arith, c.requires.2), omega (arith, c.requires.2), c.requires.3, c.requires.4)

pub overflow_mul-n : goal.overflow_mul-n
overflow_mul-n c = omega (arith, line c.args.x c.args.p (length c.args.frame.now) 0 c.requires.2 c.requires.3 (omega arith))

pub column-requires : goal.column-requires
column-requires c =
    (omega (arith, c.requires.2), omega (arith, line c.args.x c.args.p (length c.args.frame.now) 0 c.requires.2 c.requires.3 (omega arith)), omega (arith, c.requires.4, mul_comm c.args.x c.args.p))

pub overflow_mul-n-2 : goal.overflow_mul-n-2
overflow_mul-n-2 c = omega (arith, line c.args.x c.args.p (length c.args.frame.now) 1 c.requires.2 c.requires.3 (omega arith))

pub column-requires-2 : goal.column-requires-2
column-requires-2 c =
    (omega (arith, c.requires.2), omega (arith, line c.args.x c.args.p (length c.args.frame.now) 1 c.requires.2 c.requires.3 (omega arith)), omega (arith, c.requires.4, mul_comm c.args.x c.args.p))

pub returns : goal.returns
returns c =
    let n : ℕ = c.args.p - 2 in
    let m : ℕ → ℕ → ℕ = ranked_byte c.args.x c.args.frame.now in
    let most = drawing (area c.args.p 0 0 c.args.x 0 n) (λ k. group_byte c.args.p m (k - 0)) c.args.members.now _ c.columns.ensures in
    let one = rank_more c.args.p c.args.x 0 m n (λ j. get_or c.args.frame.now (n * c.args.x + j) 0) _ most c.column.ensures (λ j. refl) in
    let two = rank_more c.args.p c.args.x 0 m (n + 1) (λ j. get_or c.args.frame.now ((n + 1) * c.args.x + j) 0) _ one c.column-2.ensures (λ j. refl) in
    let e : n + 1 + 1 ≡ c.args.p = omega (arith, c.requires.2) in
    spread_by_lines c.args.x c.args.p c.args.frame.now _
    (ranks_all c.args.p c.args.x 0 m (rw e at two) ∙ fill_at_all (c.args.p * c.args.x) (group_byte c.args.p m) c.args.members.now (c.requires.4 ∙ mul_comm c.args.x c.args.p))
