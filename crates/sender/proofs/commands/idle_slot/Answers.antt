use Rattle.sender.specs.Commands.{idle_slot}
use Rattle.sender.proofs.commands.idle_slot.Goals as goal

pub returns : goal.returns
unfolding idle_slot
returns c = rw c.idle_number.ensures
