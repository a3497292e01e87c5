use Rattle.sender.specs.Epochs.{fresh_sender}
use Rattle.sender.proofs.epochs.fresh_sender.Goals as goal

pub returns : goal.returns
unfolding fresh_sender
returns c = rw c.board_of-board.ensures
