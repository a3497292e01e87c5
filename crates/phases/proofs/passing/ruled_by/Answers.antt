use mathlib.Core.Path.{refl}
use Rattle.phases.specs.Passing.{ruled_by}
use Rattle.phases.proofs.passing.ruled_by.Goals as goal

pub returns-then-whole : goal.returns-then-whole
unfolding ruled_by
returns-then-whole c = rw c.if-whole.true refl

pub returns-else-whole : goal.returns-else-whole
unfolding ruled_by
returns-else-whole c = rw c.if-whole.false refl
