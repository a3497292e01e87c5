use mathlib.Core.Path.{refl}
use Rattle.step.specs.ByTable.{own_ruling_with}
use Rattle.step.proofs.own.ruling_of.Goals as goal

pub returns-then-kind-is_own : goal.returns-then-kind-is_own
unfolding own_ruling_with
returns-then-kind-is_own c = rw (← c.is_own.ensures, c.if-kind-is_own.true) c.ruling_in.ensures

pub returns : goal.returns
unfolding own_ruling_with
returns c = rw (← c.is_own.ensures, c.if-kind-is_own.false) refl
