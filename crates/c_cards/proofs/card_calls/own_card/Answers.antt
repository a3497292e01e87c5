use Rattle.c_cards.proofs.TwoGroups.{card_alone}
use Rattle.c_cards.proofs.card_calls.own_card.Goals as goal

pub returns : goal.returns
returns c = card_alone c.args.group _ _ _ c.owners_in-owners.ensures c.part_in-sender.ensures
