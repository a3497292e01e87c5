use Rattle.std.proofs.Common.{arith}
use Rattle.sender.specs.Commands.{removed_from}
use Rattle.sender.proofs.Firsts.{fallen_first}
use Rattle.sender.proofs.commands.removed_from.Goals as goal

pub returns : goal.returns
unfolding removed_from
returns c = rw (fallen_first c.args.table.slots (omega arith) _ c.fall_in.ensures, c.idle_slot.ensures, c.size-n.ensures.value)
