-- The call meets its contract: 9 for the state, and then what is told of the board going out of the sender in it.
use Rattle.c_cards.proofs.Tells.{sender_shut, sender_tells}
use Rattle.c_cards.proofs.going.levelspruce_sender_changes.Goals as goal

pub returns-then-state-ne-SENDER_BYTES : goal.returns-then-state-ne-SENDER_BYTES
returns-then-state-ne-SENDER_BYTES c = sender_shut _ _ _ c.if-state-ne-SENDER_BYTES.true

pub returns : goal.returns
returns c =
    sender_tells _ _ _ c.if-state-ne-SENDER_BYTES.false _ _ _ _ _ c.sender_of-sender.ensures c.taken-going.ensures c.tell.ensures
