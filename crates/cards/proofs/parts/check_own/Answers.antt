use Rattle.std.proofs.Common.{arith}
use Rattle.std.proofs.lemmas.Grind.{common_steps}
use Rattle.cards.specs.Parts.{owns}
use Rattle.cards.proofs.parts.check_own.Goals as goal

pub returns-then-is_marked-clause-value : goal.returns-then-is_marked-clause-value
unfolding owns
returns-then-is_marked-clause-value c = grind (arith, common_steps)

pub returns-else-is_marked-clause-value : goal.returns-else-is_marked-clause-value
unfolding owns
returns-else-is_marked-clause-value c = grind (arith, common_steps)
