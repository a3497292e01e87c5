use Rattle.reply.specs.Choosing.{grant}
use Rattle.reply.proofs.waiting.keep_one.Goals as goal

pub returns-then-joins_kept : goal.returns-then-joins_kept
unfolding grant
returns-then-joins_kept c = rw (← c.joins_kept.ensures, c.if-joins_kept.true)

pub returns-else-joins_kept : goal.returns-else-joins_kept
unfolding grant
returns-else-joins_kept c = rw (← c.joins_kept.ensures, c.if-joins_kept.false)
