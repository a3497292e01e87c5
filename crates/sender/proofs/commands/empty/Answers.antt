use Rattle.sender.specs.Commands.{start_of}
use Rattle.sender.proofs.commands.empty.Goals as goal

pub returns : goal.returns
unfolding start_of
returns c = c.fresh.ensures
