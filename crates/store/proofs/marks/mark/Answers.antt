-- An epoch beyond the row's 128 bits leaves it; any other sets its bit in one byte, and the others stay: the two cases of the definition.
use mathlib.Core.Path.{refl}
use borrow.Author.Tests.{lt-ltb, le-ltb}
use Rattle.store.specs.Marks.{marked_at}
use Rattle.store.proofs.marks.mark.Goals as goal

pub returns-then-at-ge16 : goal.returns-then-at-ge16
unfolding marked_at
returns-then-at-ge16 c = rw (le-ltb _ 16 c.if-at-ge16.true) refl

pub returns : goal.returns
unfolding marked_at
returns c = rw (lt-ltb _ 16 c.if-at-ge16.false, c.marked_byte.ensures) refl
