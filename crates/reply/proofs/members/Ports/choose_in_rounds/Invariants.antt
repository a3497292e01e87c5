-- The rounds that are left, count - k of them, lead from the numbers kept so far to all that are kept. They end when none joins, or with the last port's.
use Rattle.std.proofs.Common.{◌≡◌, ◌-◌}
use Rattle.reply.specs.Waiting.{kept_numbers, rounds}
use Rattle.reply.proofs.members.Ports.choose_in_rounds.Given as goal

abbrev pub invariant-loop-k : goal.invariant-loop-k
invariant-loop-k l = kept_numbers l.self.table.now l.self.count ≡ rounds l.self.table.now l.self.count (l.self.count - l.k) l.kept
