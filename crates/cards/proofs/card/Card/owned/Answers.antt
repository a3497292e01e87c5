use Rattle.std.specs.Prelude.{replicate}
use Rattle.std.proofs.Common.{arith}
use Rattle.std.proofs.lemmas.Grind.{common_steps}
use Rattle.cards.specs.Readings.{owned_shown}
use Rattle.cards.specs.Theorems.Told.{owned_lost, told_kept}
use Rattle.cards.proofs.card.Card.owned.Goals as goal

pub returns-in_err-check_group-clause-told : goal.returns-in_err-check_group-clause-told
unfolding owned_shown
returns-in_err-check_group-clause-told c = grind (arith, common_steps)

pub returns-in_err-check_group-clause-left : goal.returns-in_err-check_group-clause-left
returns-in_err-check_group-clause-left c =
    let shown = owned_shown c.args.self c.args.group in
    rw (returns-in_err-check_group-clause-told c) (told_kept shown.answer (replicate 64 0) shown.owned (owned_lost c.args.self c.args.group))

pub returns : goal.returns
unfolding owned_shown
returns c = grind (arith, common_steps)
