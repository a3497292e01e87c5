-- The call meets its contract: 9, 1, and then what the card answers and writes.
-- The state is only read: behind the refusals it is a card's (`opened`), and the payload is the one of that card.
use Rattle.c_cards.proofs.TwoGroups.{opened, payload_shut, payload_own}
use Rattle.c_cards.proofs.card_calls.levelspruce_card_payload.Goals as goal

pub returns-then-first-ne0 : goal.returns-then-first-ne0
returns-then-first-ne0 c =
    payload_shut c.args.state.now c.args.group _ c.refusal-first.ensures c.if-first-ne0.true c.args.slot c.args.p c.args.frame.now c.args.member.now

pub own_card-card-requires : goal.own_card-card-requires
own_card-card-requires c =
    (opened c.args.state.now c.args.group _ c.refusal-first.ensures c.if-first-ne0.false).sized

pub returns : goal.returns
returns c =
    payload_own c.args.state.now c.args.group (opened c.args.state.now c.args.group _ c.refusal-first.ensures c.if-first-ne0.false) _ c.own_card-card.ensures c.args.slot c.args.p c.args.frame.now c.args.member.now _ _ _ c.payload.ensures.0 c.payload.ensures.1 c.number_told.ensures
