use mathlib.Core.Path.{refl}
use Rattle.sender.specs.Epochs.{packet_fields}
use Rattle.sender.proofs.epochs.packet_fields.Goals as goal

pub returns : goal.returns
unfolding packet_fields
returns c = refl
