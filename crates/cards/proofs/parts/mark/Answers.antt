use Rattle.std.proofs.Common.{arith}
use Rattle.std.proofs.lemmas.Grind.{common_steps}
use Rattle.cards.specs.Parts.{marked}
use Rattle.cards.proofs.parts.mark.Goals as goal

pub returns : goal.returns
unfolding marked
returns c = grind (arith, common_steps)
