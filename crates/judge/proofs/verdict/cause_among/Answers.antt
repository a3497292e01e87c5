use Rattle.std.proofs.Common.{◌≡◌, ◌∙◌, eq-eqb}
use Rattle.std.proofs.lemmas.Bool.{ne_eqb}
use Rattle.std.specs.Prelude.{length}
use Rattle.judge.specs.Cause.{cause_of}
use Rattle.judge.specs.Named.{decided_number}
use Rattle.judge.proofs.First.{cause_of_first}
use Rattle.judge.proofs.verdict.cause_among.Goals as goal

pub returns-then-kind-eq-FIXED : goal.returns-then-kind-eq-FIXED
unfolding cause_of
returns-then-kind-eq-FIXED c =
    let group = c.of-group.result in
    let e : decided_number c.fixed_cause.result ≡ cause_of c.args.kind group (length group) = rw (c.fixed_cause.ensures, eq-eqb _ _ c.if-kind-eq-FIXED.true) in
    e ∙ rw (c.of-group.ensures.many, c.of-group.ensures.first) (cause_of_first c.args.ports _ c.args.kind)

pub returns : goal.returns
unfolding cause_of
returns c =
    let group = c.of-group.result in
    let e : decided_number c.lcas_cause.result ≡ cause_of c.args.kind group (length group) = rw (c.lcas_cause.ensures, ne_eqb _ _ c.if-kind-eq-FIXED.false) in
    e ∙ rw (c.of-group.ensures.many, c.of-group.ensures.first) (cause_of_first c.args.ports _ c.args.kind)
