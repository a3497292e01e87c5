use mathlib.Core.Path.{refl}
use Rattle.phases.specs.Passing.{noted_by}
use Rattle.phases.proofs.passing.noted_by.Goals as goal

pub returns : goal.returns
unfolding noted_by
returns c = rw (c.good_byte-2.ensures, c.good_byte.ensures) refl
