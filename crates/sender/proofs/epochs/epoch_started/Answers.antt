use Rattle.std.proofs.Common.{arith}
use Rattle.std.proofs.lemmas.Grind.{common_steps}
use Rattle.sender.specs.Epochs.{started_epoch}
use Rattle.sender.proofs.epochs.epoch_started.Goals as goal

pub returns-then-sender : goal.returns-then-sender
unfolding started_epoch
returns-then-sender c = grind (arith, common_steps)

pub returns : goal.returns
unfolding started_epoch
returns c = grind (arith, common_steps)
