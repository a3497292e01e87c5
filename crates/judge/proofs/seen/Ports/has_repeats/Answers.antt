use Rattle.std.proofs.Common.{sym}
use Rattle.std.specs.Prelude.{length}
use Rattle.judge.specs.Theorems.Full.{full_repeats}
use Rattle.judge.proofs.seen.Ports.has_repeats.Goals as goal

pub returns-else-not-full : goal.returns-else-not-full
returns-else-not-full c = rw c.if-not-full.false (sym (full_repeats c.args.self.now (length c.args.self.now) (c.requires c.if-not-full.false)))
