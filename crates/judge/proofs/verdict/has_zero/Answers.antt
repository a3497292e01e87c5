use mathlib.Core.Path.{refl}
use Rattle.judge.specs.Verdict.{takes}
use Rattle.judge.proofs.verdict.has_zero.Goals as goal

pub returns : goal.returns
unfolding takes
returns c = rw c.is_numbered.ensures refl
