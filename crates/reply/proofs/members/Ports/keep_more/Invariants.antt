-- The numbers kept so far, with those of the first i ports that have to keep theirs.
use Rattle.std.proofs.Common.{◌≡◌}
use Rattle.reply.specs.Waiting.{more_kept}
use Rattle.reply.proofs.members.Ports.keep_more.Given as goal

abbrev pub invariant-loop-i : goal.invariant-loop-i
invariant-loop-i l = l.kept ≡ more_kept l.chosen l.self.table.now l.i l.initial.kept
