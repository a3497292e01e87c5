use Rattle.mending.specs.Follow.{count_back}
use mathlib.Core.Path.{refl}
use native.Mathlib.Omega.{arith}
use Rattle.mending.proofs.follow.count_back.Goals as goal

pub returns : goal.returns
unfolding count_back
returns c = (refl, omega arith)
