use Rattle.mending.specs.Follow.{restores_second}
use mathlib.Core.Path.{refl}
use Rattle.mending.proofs.follow.is_second.Goals as goal

pub returns : goal.returns
unfolding restores_second
returns c = refl
