use mathlib.Core.Path.{sym}
use native.Mathlib.Omega.{arith}
use lib.ListN.{get_or-eq_default}
use Rattle.reply.specs.Choosing.{FREE}
use Rattle.reply.proofs.Keeping.{read_within}
use Rattle.reply.proofs.choosing.holder_of.Goals as goal

pub returns-then-number-lt64 : goal.returns-then-number-lt64
returns-then-number-lt64 c = read_within c.args.chosen c.args.number 0 FREE (omega arith)

pub returns-else-number-lt64 : goal.returns-else-number-lt64
returns-else-number-lt64 c = sym (get_or-eq_default c.args.chosen FREE {n = c.args.number} (omega arith))
