use Rattle.std.proofs.Common.{arith}
use Rattle.std.proofs.lemmas.Grind.{common_steps}
use Rattle.sender.specs.Epochs.{start_epoch_of, started_sender}
use Rattle.sender.specs.Epochs.SenderCall.{StartEpoch}
use Rattle.sender.specs.Theorems.Told.{sender_left}
use Rattle.sender.proofs.epochs.Sender.start_epoch.Goals as goal

pub returns-then-gid-ge2-clause-told : goal.returns-then-gid-ge2-clause-told
unfolding start_epoch_of started_sender
returns-then-gid-ge2-clause-told c = grind (arith, common_steps)

pub returns-clause-told : goal.returns-clause-told
unfolding start_epoch_of started_sender
returns-clause-told c = grind (arith, common_steps)

pub returns-then-gid-ge2-clause-left : goal.returns-then-gid-ge2-clause-left
returns-then-gid-ge2-clause-left c = sender_left c.args.self (StartEpoch c.args.gid c.args.mst c.args.rs_ack) (returns-then-gid-ge2-clause-told c)

pub returns-clause-left : goal.returns-clause-left
returns-clause-left c = sender_left c.args.self (StartEpoch c.args.gid c.args.mst c.args.rs_ack) (returns-clause-told c)
