use Rattle.std.proofs.Common.{arith}
use Rattle.std.proofs.lemmas.Grind.{common_steps}
use Rattle.cards.specs.Commands.{claim_of}
use Rattle.cards.specs.Parts.{marked}
use Rattle.cards.specs.Calls.Call.{Claim}
use Rattle.cards.specs.Theorems.Told.{card_left}
use Rattle.cards.proofs.card.Card.claim.Goals as goal

pub returns-in_err-check_slot-clause-told : goal.returns-in_err-check_slot-clause-told
unfolding claim_of
returns-in_err-check_slot-clause-told c = grind (arith, common_steps)

pub returns-then-has_owner-clause-told : goal.returns-then-has_owner-clause-told
unfolding claim_of
returns-then-has_owner-clause-told c = grind (arith, common_steps)

pub returns-clause-told : goal.returns-clause-told
unfolding claim_of marked
returns-clause-told c = grind (arith, common_steps)

pub returns-in_err-check_slot-clause-left : goal.returns-in_err-check_slot-clause-left
returns-in_err-check_slot-clause-left c = card_left c.args.self c.args.group (Claim c.args.slot) (returns-in_err-check_slot-clause-told c)

pub returns-then-has_owner-clause-left : goal.returns-then-has_owner-clause-left
returns-then-has_owner-clause-left c = card_left c.args.self c.args.group (Claim c.args.slot) (returns-then-has_owner-clause-told c)

pub returns-clause-left : goal.returns-clause-left
returns-clause-left c = card_left c.args.self c.args.group (Claim c.args.slot) (returns-clause-told c)
