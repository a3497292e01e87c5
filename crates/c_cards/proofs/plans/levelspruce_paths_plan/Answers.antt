-- The call meets its contract: what the planner refuses, then 9 for the buffer, and under 0 the plan's 65 bytes.
use Rattle.std.proofs.Common.{◌≡◌, ◌∙◌, sym, ap, ◌∷◌, arith}
use Rattle.paths.specs.declared.planning.Proposal.{Proposal}
use Rattle.paths.specs.Answers.{answer_of, number_of}
use Rattle.paths.specs.Planning.{plan_of, proposal_in}
use Rattle.paths.specs.Laws.Answers.{told_err, told_ok}
use Rattle.c_cards.proofs.Planning.{lent_done, lent_refused, lent_short}
use Rattle.c_cards.proofs.plans.levelspruce_paths_plan.Goals as goal

pub returns-in-Err : goal.returns-in-Err
unfolding plan_of
returns-in-Err c =
    let four : number_of (answer_of c.args.delays.now c.args.k c.args.window) ≡ 4 = told_err _ _ c.in-Err.refusal (sym c.plan.ensures.told ∙ c.in-Err.is) in
    lent_refused c.number.result _ 65 _ _ (c.number.ensures ∙ sym four) (omega arith)

pub returns-then-plan-ne65 : goal.returns-then-plan-ne65
unfolding plan_of
returns-then-plan-ne65 c =
    lent_short _ 65 _ _ (told_ok (answer_of c.args.delays.now c.args.k c.args.window) _ _ (sym c.plan.ensures.told ∙ c.in-Ok.is)).0 c.if-plan-ne65.true

pub returns : goal.returns
unfolding plan_of
returns c =
    let t = told_ok (answer_of c.args.delays.now c.args.k c.args.window) (proposal_in (plan_of c.args.delays.now c.args.k c.args.window)) c.in-Ok.proposal (sym c.plan.ensures.told ∙ c.in-Ok.is) in
    lent_done _ 65 _ _ t.0 c.if-plan-ne65.false _ (c.put_plan.ensures ∙ ap (λ (p : Proposal). p.count ∷ p.paths) t.1)
