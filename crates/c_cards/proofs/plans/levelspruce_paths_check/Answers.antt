-- The call meets its contract: 4, 9, and then whether the proposal is accepted.
-- Under 4 and 9 the byte is as given; otherwise it is written by `lent_done`.
use Rattle.std.proofs.Common.{◌≡◌, ◌∙◌, sym, ap, arith}
use Rattle.ground.specs.Flags.{one_if}
use Rattle.paths.specs.Answers.{answer_of, number_of}
use Rattle.paths.specs.Checking.{checked_of}
use Rattle.paths.specs.Laws.Answers.{told_err, told_ok}
use Rattle.c_face.specs.Laws.Sharing.{flag_byte}
use Rattle.c_cards.proofs.Planning.{lent_done, lent_refused, lent_short, one_byte}
use Rattle.c_cards.proofs.plans.levelspruce_paths_check.Goals as goal

pub returns-in-Err : goal.returns-in-Err
unfolding checked_of
returns-in-Err c =
    let four : number_of (answer_of c.args.delays.now c.args.k c.args.window) ≡ 4 = told_err _ _ c.in-Err.refusal (sym c.check.ensures.told ∙ c.in-Err.is) in
    lent_refused c.number.result _ 1 _ _ (c.number.ensures ∙ sym four) (omega arith)

pub returns-then-accepted-ne1 : goal.returns-then-accepted-ne1
unfolding checked_of
returns-then-accepted-ne1 c =
    lent_short _ 1 _ _ (told_ok (answer_of c.args.delays.now c.args.k c.args.window) _ _ (sym c.check.ensures.told ∙ c.in-Ok.is)).0 c.if-accepted-ne1.true

pub returns : goal.returns
unfolding checked_of
returns c =
    let t = told_ok (answer_of c.args.delays.now c.args.k c.args.window) _ c.in-Ok.is_accepted (sym c.check.ensures.told ∙ c.in-Ok.is) in
    lent_done _ 1 _ _ t.0 c.if-accepted-ne1.false _ (one_byte c.args.accepted.now c.from.result _ c.if-accepted-ne1.false (c.from.ensures ∙ flag_byte c.in-Ok.is_accepted ∙ ap one_if t.1))
