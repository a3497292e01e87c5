-- The table with the claims of the first i ports.
use Rattle.std.proofs.Common.{◌≡◌}
use Rattle.reply.specs.Choosing.{claims}
use Rattle.reply.proofs.members.Ports.claim_all.Given as goal

abbrev pub invariant-loop-i : goal.invariant-loop-i
invariant-loop-i l = l.chosen ≡ claims l.first l.self.table.now l.i l.initial.chosen
