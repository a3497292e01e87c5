use borrow.Author.Tests.{eq-eqb, ne_eqb}
use Rattle.cards.specs.Parts.{with_sender}
use Rattle.cards.proofs.parts.with_sender.Goals as goal

pub returns-then-group-eq0 : goal.returns-then-group-eq0
unfolding with_sender
returns-then-group-eq0 c = rw (eq-eqb _ 0 c.if-group-eq0.true)

pub returns-else-group-eq0 : goal.returns-else-group-eq0
unfolding with_sender
returns-else-group-eq0 c = rw (ne_eqb _ 0 c.if-group-eq0.false)
