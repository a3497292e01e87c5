use Rattle.std.proofs.Common.{refl, eq-eqb}
use Rattle.std.proofs.lemmas.Bool.{ne_eqb}
use Rattle.judge.specs.Cause.{mark_of}
use Rattle.judge.proofs.verdict.mark.Goals as goal

pub returns-then-cause-eq0 : goal.returns-then-cause-eq0
unfolding mark_of
returns-then-cause-eq0 c = rw (eq-eqb _ _ c.if-cause-eq0.true) (refl, refl)

pub returns-then-kind-cause : goal.returns-then-kind-cause
unfolding mark_of
returns-then-kind-cause c = rw (ne_eqb _ _ c.if-cause-eq0.false, rw c.number.ensures at c.if-kind-cause.true) (refl, refl)

pub returns : goal.returns
unfolding mark_of
returns c = rw (ne_eqb _ _ c.if-cause-eq0.false, rw c.number.ensures at c.if-kind-cause.false) (refl, refl)
