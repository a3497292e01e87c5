use Rattle.mending.specs.Follow.{restores_third}
use mathlib.Core.Path.{refl}
use Rattle.mending.proofs.follow.is_third.Goals as goal

pub returns : goal.returns
unfolding restores_third
returns c = refl
