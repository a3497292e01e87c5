use Rattle.std.proofs.Common.{arith}
use Rattle.std.proofs.lemmas.Grind.{common_steps}
use Rattle.cards.specs.Readings.{board_shown}
use Rattle.cards.specs.Parts.{shown_sender}
use Rattle.cards.proofs.card.Card.board.Goals as goal

pub returns-in_err-check_group : goal.returns-in_err-check_group
unfolding board_shown shown_sender
returns-in_err-check_group c = grind (arith, common_steps)

pub returns : goal.returns
unfolding board_shown shown_sender
returns c = grind (arith, common_steps)
