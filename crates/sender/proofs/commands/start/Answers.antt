use Rattle.std.proofs.Common.{arith}
use Rattle.std.proofs.lemmas.Grind.{common_steps}
use Rattle.sender.specs.Commands.{start_of}
use Rattle.sender.proofs.commands.start.Goals as goal

pub returns-then-count-eq0 : goal.returns-then-count-eq0
unfolding start_of
returns-then-count-eq0 c = grind (arith, common_steps)

pub returns : goal.returns
unfolding start_of
returns c = grind (arith, common_steps)
