-- The first i places have what this report leaves of their ports, the others are as they were.
use Rattle.ground.specs.Counting.Each.{Done}
use Rattle.reply.specs.Members.{port_at}
use Rattle.reply.specs.Waiting.{standing_by}
use Rattle.reply.proofs.members.Ports.standings_by.Given as goal

abbrev pub invariant-loop-i : goal.invariant-loop-i
invariant-loop-i l = Done l.i (λ j. standing_by l.chosen j (port_at l.self.table.now j)) l.initial.all l.all
