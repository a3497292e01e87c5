use Rattle.std.proofs.Common.{arith}
use Rattle.std.proofs.lemmas.Grind.{common_steps}
use Rattle.cards.specs.Commands.{release_of}
use Rattle.cards.specs.Parts.{marked}
use Rattle.cards.specs.Calls.Call.{Release}
use Rattle.cards.specs.Theorems.Told.{card_left}
use Rattle.cards.proofs.card.Card.release.Goals as goal

pub returns-in_err-check_own-clause-told : goal.returns-in_err-check_own-clause-told
unfolding release_of
returns-in_err-check_own-clause-told c = grind (arith, common_steps)

pub returns-then-is_used-clause-told : goal.returns-then-is_used-clause-told
unfolding release_of
returns-then-is_used-clause-told c = grind (arith, common_steps)

pub returns-clause-told : goal.returns-clause-told
unfolding release_of marked
returns-clause-told c = grind (arith, common_steps)

pub returns-in_err-check_own-clause-left : goal.returns-in_err-check_own-clause-left
returns-in_err-check_own-clause-left c = card_left c.args.self c.args.group (Release c.args.slot) (returns-in_err-check_own-clause-told c)

pub returns-then-is_used-clause-left : goal.returns-then-is_used-clause-left
returns-then-is_used-clause-left c = card_left c.args.self c.args.group (Release c.args.slot) (returns-then-is_used-clause-told c)

pub returns-clause-left : goal.returns-clause-left
returns-clause-left c = card_left c.args.self c.args.group (Release c.args.slot) (returns-clause-told c)
