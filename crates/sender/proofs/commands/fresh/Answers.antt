use Rattle.sender.specs.Commands.{fresh_of}
use Rattle.sender.proofs.commands.fresh.Goals as goal

pub returns : goal.returns
unfolding fresh_of
returns c = rw c.idle_slot.ensures
