use Rattle.sender.specs.Board.{row_of}
use Rattle.sender.proofs.board.row_of.Goals as goal

pub returns : goal.returns
unfolding row_of
returns c = rw (c.word_of.ensures, c.requires.2 _)
