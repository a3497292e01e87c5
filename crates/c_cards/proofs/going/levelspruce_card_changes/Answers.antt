-- The call meets its contract: 9, 1, and then what is told of the board going out of the group's sender.
-- Behind both refusals the state is a card's (`opened`).
use Rattle.c_cards.proofs.Tells.{card_shut, card_tells}
use Rattle.c_cards.proofs.TwoGroups.{opened}
use Rattle.c_cards.proofs.going.levelspruce_card_changes.Goals as goal

pub returns-then-first-ne0 : goal.returns-then-first-ne0
returns-then-first-ne0 c =
    card_shut c.args.state.now c.args.group _ _ _ c.refusal-first.ensures c.if-first-ne0.true

pub part_in-sender-requires : goal.part_in-sender-requires
part_in-sender-requires c =
    (opened c.args.state.now c.args.group _ c.refusal-first.ensures c.if-first-ne0.false).sized

pub returns : goal.returns
returns c =
    card_tells c.args.state.now c.args.group _ _ (opened c.args.state.now c.args.group _ c.refusal-first.ensures c.if-first-ne0.false) _ _ _ _ _ c.part_in-sender.ensures c.taken-going.ensures c.tell.ensures
