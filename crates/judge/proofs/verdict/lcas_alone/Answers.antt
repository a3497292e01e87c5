-- The clauses of LCAS for one port: nothing can repeat (`none_repeats`), and its number is exact if it has none or 0 (`exact_alone`).
-- A clause that holds decides (`by_held`), else one that doubts (`by_doubt`).
use Rattle.std.specs.Prelude.{[], ◌∷◌}
use Rattle.judge.proofs.Alone.{exact_alone, none_repeats}
use Rattle.std.proofs.Common.{◌∙◌, sym}
use Rattle.judge.proofs.Deciding.{none_decides, some_decides}
use Rattle.judge.proofs.Judging.{by_held, by_doubt}
use Rattle.judge.proofs.verdict.lcas_alone.Goals as goal

pub returns-then-is_some : goal.returns-then-is_some
returns-then-is_some c = by_held (c.args.port ∷ []) 1 c.tallied_alone-tally.result _ _ _ c.tallied_alone-tally.ensures (none_repeats _) c.is_eos_last-alone.ensures c.held_cause-held.ensures (some_decides _ (sym c.is_some.ensures ∙ c.if-is_some.true))

pub returns : goal.returns
returns c =
    by_doubt (c.args.port ∷ []) 1 c.tallied_alone-tally.result _ _ _ c.tallied_alone-tally.ensures (none_repeats _) c.is_eos_last-alone.ensures c.held_cause-held.ensures _ _ (exact_alone _ _ _ c.tallied_alone-tally.ensures c.has_zero.ensures) (none_decides _ (sym c.is_some.ensures ∙ c.if-is_some.false)) c.doubt_cause.ensures
