use Rattle.std.proofs.Common.{arith}
use Rattle.std.proofs.lemmas.Grind.{common_steps}
use Rattle.sender.specs.Epochs.{packet_answer, packet_bytes}
use Rattle.sender.proofs.epochs.Sender.packet.Goals as goal

pub returns-then-at-size : goal.returns-then-at-size
unfolding packet_answer packet_bytes
returns-then-at-size c = grind (arith, common_steps)

pub returns-then-h4-epoch_frames : goal.returns-then-h4-epoch_frames
unfolding packet_answer packet_bytes
returns-then-h4-epoch_frames c = grind (arith, common_steps)

pub returns-then-not-self : goal.returns-then-not-self
unfolding packet_answer packet_bytes
returns-then-not-self c = grind (arith, common_steps)

pub returns-in_err-write_by : goal.returns-in_err-write_by
unfolding packet_answer packet_bytes
returns-in_err-write_by c = grind (arith, common_steps)

pub returns : goal.returns
unfolding packet_answer packet_bytes
returns c = grind (arith, common_steps)
