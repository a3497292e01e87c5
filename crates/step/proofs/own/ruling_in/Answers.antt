use borrow.Author.Tests.{eq-eqb, ne_eqb}
use Rattle.step.specs.ByTable.{ruling_in_with}
use Rattle.step.proofs.own.ruling_in.Goals as goal

pub returns-then-kind-eq-FIXED : goal.returns-then-kind-eq-FIXED
unfolding ruling_in_with
returns-then-kind-eq-FIXED c = rw (eq-eqb _ 2 c.if-kind-eq-FIXED.true) c.fixed_ruling_of.ensures

pub returns : goal.returns
unfolding ruling_in_with
returns c = rw (ne_eqb _ 2 c.if-kind-eq-FIXED.false) c.ruling_of.ensures
