use Rattle.std.proofs.Common.{arith}
use Rattle.sender.specs.Commands.{added_to}
use Rattle.sender.proofs.Firsts.{members_first}
use Rattle.sender.proofs.commands.added_to.Goals as goal

pub returns : goal.returns
unfolding added_to
returns c = rw (members_first c.args.table.slots (omega arith) c.members.ensures, c.size-n.ensures.value)
