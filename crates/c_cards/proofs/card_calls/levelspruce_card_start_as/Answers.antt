use Rattle.c_cards.proofs.card_calls.levelspruce_card_start_as.Goals as goal

pub returns : goal.returns
returns c = c.start_by.ensures
