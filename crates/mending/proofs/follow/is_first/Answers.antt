use Rattle.mending.specs.Follow.{restores_first}
use mathlib.Core.Path.{refl}
use Rattle.mending.proofs.follow.is_first.Goals as goal

pub returns : goal.returns
unfolding restores_first
returns c = refl
