-- The call meets its contract: 9 for the state, 9 for lists of different lengths, and then every command with its answer.
-- Each exit cites one law of Ordering, in the order of the tests.
use Rattle.c_cards.proofs.Ordering.{order_done, order_unequal, order_unsized}
use Rattle.c_cards.proofs.commands.levelspruce_card_order.Goals as goal

pub returns-then-state-ne-CARD_BYTES : goal.returns-then-state-ne-CARD_BYTES
returns-then-state-ne-CARD_BYTES c =
    order_unsized c.args.state.now c.args.commands.now c.args.answers.now c.if-state-ne-CARD_BYTES.true

pub returns-then-commands-answers : goal.returns-then-commands-answers
returns-then-commands-answers c =
    order_unequal c.args.state.now c.args.commands.now c.args.answers.now c.if-state-ne-CARD_BYTES.false c.if-commands-answers.true

pub returns : goal.returns
returns c =
    order_done c.args.state.now c.args.commands.now c.args.answers.now _ _ c.if-state-ne-CARD_BYTES.false c.if-commands-answers.false c.each.ensures
