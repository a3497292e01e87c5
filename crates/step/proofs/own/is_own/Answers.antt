use mathlib.Core.Path.{refl}
use Rattle.packet.specs.Laws.Reading.{epoch_read}
use Rattle.step.specs.OwnCount.{own_number}
use Rattle.step.proofs.own.is_own.Goals as goal

pub returns : goal.returns
unfolding own_number
returns c = rw (epoch_read _) refl
