use mathlib.Core.Path.{refl}
use Rattle.phases.specs.Sizes.{start_sized}
use Rattle.phases.proofs.sizes.is_startable.Goals as goal

pub returns : goal.returns
unfolding start_sized
returns c = rw (c.is_sized.ensures, c.is_payload.ensures) refl
