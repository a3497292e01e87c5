-- `join` meets its contract: members that lie one after the other start at multiples of p (`joined_started`).
use mathlib.Core.Path.{◌≡◌}
use Prim.Native.Nat.{ℕ, ◌<◌, ◌≤◌, ◌*◌}
use native.Mathlib.Nat.{mul-le-mul_right}
use native.Mathlib.Omega.{arith}
use lib.ListN.{length}
use Rattle.payload.proofs.Frames.{member_in}
use Rattle.payload.proofs.Fronts.{starts_at, joined_started}
use Rattle.payload.proofs.over.join.Goals as goal

three : (x p n : ℕ) → 3 ≤ x → n ≡ x * p → 3 * p ≤ n
three x p n some is = omega (arith, mul-le-mul_right p some, is)

pub overflow_mul-starts : goal.overflow_mul-starts
overflow_mul-starts c = omega (arith, three c.args.x c.args.p (length c.args.members.now) c.requires.0 c.requires.3)

pub overflow_mul-starts-2 : goal.overflow_mul-starts-2
overflow_mul-starts-2 c = omega (arith, three c.args.x c.args.p (length c.args.members.now) c.requires.0 c.requires.3)

pub overflow_mul-starts-3 : goal.overflow_mul-starts-3
overflow_mul-starts-3 c = omega (arith, three c.args.x c.args.p (length c.args.members.now) c.requires.0 c.requires.3)

pub overflow_mul-starts-4 : goal.overflow_mul-starts-4
overflow_mul-starts-4 c = omega (arith, three c.args.x c.args.p (length c.args.members.now) c.requires.0 c.requires.3)

pub overflow_mul-starts-5 : goal.overflow_mul-starts-5
overflow_mul-starts-5 c = omega (arith, three c.args.x c.args.p (length c.args.members.now) c.requires.0 c.requires.3)

pub join_from-requires : goal.join_from-requires
join_from-requires c =
    (c.requires.0, omega (arith, c.requires.1), c.requires.2, c.requires.1, λ r b. omega (arith, starts_at c.args.p r (omega (arith, b, c.requires.1)), member_in c.args.x c.args.p r b, c.requires.3), omega (arith, c.requires.4))

pub returns : goal.returns
returns c =
    let pos : 0 < c.args.x = omega (arith, c.requires.0) in
    joined_started c.args.x c.args.p c.args.members.now c.args.frame.now _ pos c.requires.1 c.requires.4 c.join_from.ensures
