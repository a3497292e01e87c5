use Rattle.std.proofs.Common.{arith}
use Rattle.std.proofs.lemmas.Grind.{common_steps}
use Rattle.cards.specs.Commands.{group_call_of}
use Rattle.cards.specs.Parts.{group_outcome}
use Rattle.cards.specs.Calls.Call.{Lapse}
use Rattle.cards.specs.Theorems.Told.{card_left}
use Rattle.cards.proofs.card.Card.lapse.Goals as goal

pub returns-in_err-check_group-clause-told : goal.returns-in_err-check_group-clause-told
unfolding group_call_of group_outcome
returns-in_err-check_group-clause-told c = grind (arith, common_steps)

pub returns-in_err-sender-clause-told : goal.returns-in_err-sender-clause-told
unfolding group_call_of group_outcome
returns-in_err-sender-clause-told c = grind (arith, common_steps)

pub returns-clause-told : goal.returns-clause-told
unfolding group_call_of group_outcome
returns-clause-told c = grind (arith, common_steps)

pub returns-in_err-check_group-clause-left : goal.returns-in_err-check_group-clause-left
returns-in_err-check_group-clause-left c = card_left c.args.self c.args.group Lapse (returns-in_err-check_group-clause-told c)

pub returns-in_err-sender-clause-left : goal.returns-in_err-sender-clause-left
returns-in_err-sender-clause-left c = card_left c.args.self c.args.group Lapse (returns-in_err-sender-clause-told c)

pub returns-clause-left : goal.returns-clause-left
returns-clause-left c = card_left c.args.self c.args.group Lapse (returns-clause-told c)
