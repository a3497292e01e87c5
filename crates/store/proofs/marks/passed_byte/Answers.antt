use mathlib.Core.Path.{refl}
use Rattle.store.specs.Marks.{passed_byte}
use Rattle.store.proofs.marks.passed_byte.Goals as goal

pub returns : goal.returns
unfolding passed_byte
returns c = refl
