-- `standing_by` meets its contract: IDLE, with its claim, without it. Each exit cites one law of Claims.
use mathlib.Core.Path.{sym, ◌∙◌}
use Rattle.reply.specs.Laws.Claims.{left_claim, left_idle, left_lost}
use Rattle.reply.proofs.waiting.standing_by.Goals as goal

pub returns-then-is_idle : goal.returns-then-is_idle
returns-then-is_idle c =
    sym (left_idle c.args.chosen c.args.i c.args.port (sym c.is_idle.ensures ∙ c.if-is_idle.true))

pub returns-then-has_claim : goal.returns-then-has_claim
returns-then-has_claim c =
    c.with_claim.ensures
    ∙ sym (left_claim c.args.chosen c.args.i c.args.port (sym c.is_idle.ensures ∙ c.if-is_idle.false) (sym c.has_claim.ensures ∙ c.if-has_claim.true))

pub returns : goal.returns
returns c =
    c.without_claim.ensures
    ∙ sym (left_lost c.args.chosen c.args.i c.args.port (sym c.is_idle.ensures ∙ c.if-is_idle.false) (sym c.has_claim.ensures ∙ c.if-has_claim.false))
