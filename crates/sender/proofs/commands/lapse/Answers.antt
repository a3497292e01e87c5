use Rattle.std.proofs.Common.{arith}
use Rattle.std.proofs.lemmas.Grind.{common_steps}
use Rattle.sender.specs.Commands.{lapse_of}
use Rattle.sender.specs.Calls.Call.{Lapse}
use Rattle.sender.specs.Theorems.Told.{table_left}
use Rattle.sender.proofs.commands.lapse.Goals as goal

pub returns-then-not-table-clause-told : goal.returns-then-not-table-clause-told
unfolding lapse_of
returns-then-not-table-clause-told c = grind (arith, common_steps)

pub returns-clause-told : goal.returns-clause-told
unfolding lapse_of
returns-clause-told c = grind (arith, common_steps)

pub returns-then-not-table-clause-left : goal.returns-then-not-table-clause-left
returns-then-not-table-clause-left c = table_left c.args.table Lapse (returns-then-not-table-clause-told c)

pub returns-clause-left : goal.returns-clause-left
returns-clause-left c = table_left c.args.table Lapse (returns-clause-told c)
