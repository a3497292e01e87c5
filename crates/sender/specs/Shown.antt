-- Tables made by calls, and what their boards and answers show as numbers: what an example of 01 is compared by.
use Rattle.std.specs.Prelude.{List, [], ◌∷◌, ◌++◌, ℕ, take, if◌then◌else◌}
use Rattle.sender.specs.declared.board.Board.{Board}
use Rattle.sender.specs.declared.board.Row.{Row}
use Rattle.sender.specs.declared.table.Table.{Table}
use Rattle.sender.specs.Board.{board_of}
use Rattle.sender.specs.Calls.{Call, run}
use Rattle.sender.specs.Commands.{start_of}
use Rattle.sender.specs.Table.{answer_number}

-- the table after calls from a start of so many slots
abbrev pub after : ℕ → List Call → Table
after count calls = run (start_of 0 count).table calls

abbrev row_numbers : List Row → List ℕ
row_numbers [] = []
row_numbers (r ∷ rs) = r.word.0 ∷ r.number ∷ row_numbers rs

-- a board: word and number of each slot, then the wait
abbrev pub numbers : Board → List ℕ
numbers b = row_numbers (take b.count b.rows) ++ ((if b.wait then 1 else 0) ∷ [])

abbrev pub shown : Table → List ℕ
shown t = numbers (board_of t)

-- a start: its answer and the count it leaves
abbrev pub started : ℕ → List ℕ
started count = answer_number (start_of 0 count).answer ∷ (start_of 0 count).table.count ∷ []
