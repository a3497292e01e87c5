use mathlib.Core.Path.{refl}
use Rattle.store.specs.Marks.{first_mark}
use Rattle.store.proofs.marks.first.Goals as goal

pub returns : goal.returns
unfolding first_mark
returns c = refl
