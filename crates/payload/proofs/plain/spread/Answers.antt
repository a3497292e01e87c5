use mathlib.Core.Path.{◌≡◌}
use native.Mathlib.Nat.{zero-mul}
use native.Mathlib.Omega.{arith}
use Rattle.ground.specs.Drawn.{filling_none, filling_all}
use Rattle.payload.proofs.Frames.{member_in, member_more}
use Rattle.payload.proofs.plain.spread.Goals as goal

pub loop-r-init : goal.loop-r-init
loop-r-init c = (omega arith, rw zero-mul (filling_none _ _ _))

pub overflow_mul-r : goal.overflow_mul-r
overflow_mul-r c = omega (arith, member_in c.args.x c.args.p c.loop-r.r (omega arith))

pub member-requires : goal.member-requires
member-requires c = omega (arith, member_in c.args.x c.args.p c.loop-r.r (omega arith))

pub loop-r-preserved : goal.loop-r-preserved
loop-r-preserved c =
    (omega arith, member_more c.args.x c.args.p c.loop-r.r c.args.frame.now _ (omega arith) c.loop-r.invariant.1 c.member.ensures)

pub shape_of-members : goal.shape_of-members
shape_of-members c = c.loop-r.invariant.1.len

pub returns : goal.returns
returns c =
    let e : c.loop-r.r ≡ c.args.x = omega arith in
    filling_all (rw e at c.loop-r.invariant.1) c.requires.1
