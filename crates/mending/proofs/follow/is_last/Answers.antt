use Rattle.mending.specs.Follow.{restores_last}
use mathlib.Core.Path.{refl}
use Rattle.mending.proofs.follow.is_last.Goals as goal

pub returns : goal.returns
unfolding restores_last
returns c = refl
