use Rattle.std.proofs.Common.{arith}
use Rattle.std.proofs.lemmas.Grind.{common_steps}
use Rattle.cards.specs.Commands.{start_of}
use Rattle.cards.proofs.card.Card.empty.Goals as goal

pub returns : goal.returns
unfolding start_of
returns c = grind (arith, common_steps)
