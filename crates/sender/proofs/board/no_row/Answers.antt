use Rattle.sender.specs.Board.{no_row}
use Rattle.sender.proofs.board.no_row.Goals as goal

pub returns : goal.returns
unfolding no_row
returns c = rw c.idle_number.ensures
