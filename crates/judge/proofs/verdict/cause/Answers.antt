use Rattle.std.proofs.Common.{◌∙◌}
use Rattle.judge.proofs.Alone.{cause_first}
use Rattle.judge.proofs.verdict.cause.Goals as goal

pub returns-then-count-eq1 : goal.returns-then-count-eq1
returns-then-count-eq1 c = rw c.if-count-eq1.true (c.decided_number.ensures ∙ c.cause_alone.ensures ∙ cause_first _ _)
