use borrow.Author.Tests.{eq-eqb, ne_eqb}
use Rattle.cards.specs.Parts.{sender_of}
use Rattle.cards.proofs.parts.sender_of.Goals as goal

pub returns-then-group-eq0 : goal.returns-then-group-eq0
unfolding sender_of
returns-then-group-eq0 c = rw (eq-eqb _ 0 c.if-group-eq0.true)

pub returns-else-group-eq0 : goal.returns-else-group-eq0
unfolding sender_of
returns-else-group-eq0 c = rw (ne_eqb _ 0 c.if-group-eq0.false)
