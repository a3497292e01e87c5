use Rattle.std.proofs.Common.{arith}
use Rattle.std.proofs.lemmas.Grind.{common_steps}
use Rattle.sender.specs.Epochs.{begin_of}
use Rattle.sender.proofs.epochs.Sender.empty.Goals as goal

pub returns : goal.returns
unfolding begin_of
returns c = grind (arith, common_steps)
