use mathlib.Core.Path.{refl}
use Rattle.phases.specs.Due.{owes_nothing}
use Rattle.phases.proofs.due.owes_nothing.Goals as goal

pub returns : goal.returns
unfolding owes_nothing
returns c = rw (c.is_set-2.ensures, c.is_set.ensures, c.first.ensures, c.is_readable.ensures) refl
