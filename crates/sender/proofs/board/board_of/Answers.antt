use native.Mathlib.Omega.{arith}
use Rattle.sender.specs.Board.{board_of}
use Rattle.sender.specs.Laws.Sizes.{size_le}
use Rattle.sender.proofs.board.board_of.Goals as goal

pub rows_of-requires : goal.rows_of-requires
rows_of-requires c = rw c.size-n.ensures.value (size_le _)

pub overflow_cast-result : goal.overflow_cast-result
overflow_cast-result c = rw c.size-n.ensures.value (omega arith)

pub returns : goal.returns
unfolding board_of
returns c = rw (c.rows_of.ensures, c.size-n.ensures.value)
