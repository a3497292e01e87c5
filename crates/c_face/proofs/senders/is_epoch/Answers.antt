use mathlib.Core.Path.{ap}
use native.Mathlib.Omega.{arith}
use lib.Dec.{ltb}
use Rattle.packet.specs.Theorems.Tags.{epochs_fit, frames_some}
use Rattle.c_face.proofs.SenderCalls.{epochs_by}
use Rattle.c_face.proofs.senders.is_epoch.Goals as goal

pub nonzero_div-result : goal.nonzero_div-result
nonzero_div-result c = omega (arith, c.epoch_frames-frames.ensures, frames_some c.args.kind)

pub overflow_cast-result-2 : goal.overflow_cast-result-2
overflow_cast-result-2 c =
    omega (arith, epochs_by c.args.kind _ _ c.tag_count-tags.ensures c.epoch_frames-frames.ensures, epochs_fit c.args.kind)

pub returns : goal.returns
returns c = ap (ltb c.args.epoch) (epochs_by c.args.kind _ _ c.tag_count-tags.ensures c.epoch_frames-frames.ensures)
