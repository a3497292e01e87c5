use Rattle.std.proofs.Common.{eq-eqb}
use Rattle.std.proofs.lemmas.Bool.{ne_eqb}
use Rattle.judge.specs.Cause.{cause_of}
use Rattle.judge.proofs.verdict.cause_alone.Goals as goal

pub returns-then-kind-eq-FIXED : goal.returns-then-kind-eq-FIXED
unfolding cause_of
returns-then-kind-eq-FIXED c = rw (c.fixed_alone.ensures, eq-eqb _ _ c.if-kind-eq-FIXED.true)

pub returns : goal.returns
unfolding cause_of
returns c = rw (c.lcas_alone.ensures, ne_eqb _ _ c.if-kind-eq-FIXED.false)
