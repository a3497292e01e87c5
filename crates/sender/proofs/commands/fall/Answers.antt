use Rattle.std.proofs.Common.{arith}
use Rattle.std.proofs.lemmas.Grind.{common_steps}
use Rattle.sender.specs.Commands.{fallen}
use Rattle.sender.proofs.commands.fall.Goals as goal

pub returns-then-number-slot : goal.returns-then-number-slot
unfolding fallen
returns-then-number-slot c = grind (arith, common_steps)

pub returns-else-is_member : goal.returns-else-is_member
unfolding fallen
returns-else-is_member c = grind (arith, common_steps)
