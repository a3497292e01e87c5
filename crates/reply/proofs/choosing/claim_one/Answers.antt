use Rattle.reply.specs.Choosing.{grant}
use Rattle.reply.proofs.choosing.claim_one.Goals as goal

pub returns-then-takes : goal.returns-then-takes
unfolding grant
returns-then-takes c = rw (← c.holder_of.ensures, ← c.takes.ensures, c.if-takes.true)

pub returns-else-takes : goal.returns-else-takes
unfolding grant
returns-else-takes c = rw (← c.holder_of.ensures, ← c.takes.ensures, c.if-takes.false)
