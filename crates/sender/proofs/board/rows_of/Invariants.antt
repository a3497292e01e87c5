-- The first i rows are those of their slots, the others are empty.
use Rattle.ground.specs.Counting.Each.{Done}
use Rattle.sender.specs.Board.{row_of}
use Rattle.sender.proofs.board.rows_of.Given as goal

abbrev pub invariant-loop-i : goal.invariant-loop-i
invariant-loop-i l = Done l.i (λ j. row_of l.slots l.n j) l.initial.rows l.rows
