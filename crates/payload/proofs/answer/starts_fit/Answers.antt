use mathlib.Core.Path.{◌≡◌, refl}
use native.Mathlib.Omega.{arith}
use native.Mathlib.Numerals.{add-one}
use Rattle.payload.proofs.answer.starts_fit.Goals as goal

pub loop-r-init : goal.loop-r-init
loop-r-init c = (omega arith, refl)

pub loop-r-preserved : goal.loop-r-preserved
loop-r-preserved c = (omega arith, rw (c.loop-r.invariant.1, c.ends_within-fit.ensures, add-one))

pub returns : goal.returns
returns c = let e : c.loop-r.r ≡ c.args.x = omega arith in rw (← e) c.loop-r.invariant.1
