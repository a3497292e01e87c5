use Rattle.std.proofs.Common.{ap, arith}
use Rattle.std.proofs.lemmas.Grind.{common_steps}
use Rattle.cards.specs.Answers.{CardOutcome}
use Rattle.cards.specs.Commands.{start_of}
use Rattle.cards.specs.Theorems.Told.{start_lost}
use Rattle.sender.specs.Epochs.{begin_of}
use Rattle.cards.proofs.card.Card.start.Goals as goal

pub returns-in_err-start-clause-told : goal.returns-in_err-start-clause-told
unfolding start_of
returns-in_err-start-clause-told c = grind (arith, common_steps)

pub returns-in_err-start-clause-left : goal.returns-in_err-start-clause-left
returns-in_err-start-clause-left c =
    rw (returns-in_err-start-clause-told c) (ap (λ (r : CardOutcome). r.card) (start_lost c.args.kind c.args.count c.args.epoch_0 c.args.epoch_1))

pub returns-in_err-start-2 : goal.returns-in_err-start-2
unfolding start_of begin_of
returns-in_err-start-2 c = grind (arith, common_steps)

pub returns : goal.returns
unfolding start_of
returns c = grind (arith, common_steps)
