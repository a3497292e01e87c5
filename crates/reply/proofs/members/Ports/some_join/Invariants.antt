-- None of the first i ports joins.
use Rattle.std.proofs.Common.{◌≡◌, false}
use Rattle.reply.specs.Waiting.{some_join}
use Rattle.reply.proofs.members.Ports.some_join.Given as goal

abbrev pub invariant-loop-i : goal.invariant-loop-i
invariant-loop-i l = some_join l.chosen l.kept l.self.table.now l.i ≡ false
