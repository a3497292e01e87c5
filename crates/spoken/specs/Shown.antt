-- Changes as numbers: what an example of 02 is compared by, and how C is handed the wait.
use Rattle.std.specs.Prelude.{List, [], ◌∷◌, ◌++◌, ℕ, take}
use Rattle.sender.specs.declared.board.Board.{Board}
use Rattle.sender.specs.Shown.{numbers}
use Rattle.spoken.specs.declared.lists.Change.{Change}
use Rattle.spoken.specs.declared.lists.Changes.{Changes}
use Rattle.spoken.specs.declared.lists.WaitChange.{WaitChange}
use Rattle.spoken.specs.declared.lists.WaitChange.TheVariants.{Same, Opened, Closed}
use Rattle.spoken.specs.Applying.{applied_of}
use Rattle.spoken.specs.Changes.{answer_number, compared_of}

abbrev pub wait_code : WaitChange → ℕ
wait_code Same = 0
wait_code Opened = 1
wait_code Closed = 2

abbrev change_numbers : List Change → List ℕ
change_numbers [] = []
change_numbers (c ∷ cs) = c.slot ∷ c.old.word.0 ∷ c.old.number ∷ c.new.word.0 ∷ c.new.number ∷ change_numbers cs

-- slot, old word and number, new word and number of each change, then the wait
abbrev pub spoken_numbers : Changes → List ℕ
spoken_numbers cs = change_numbers (take cs.count cs.list) ++ (wait_code cs.wait ∷ [])

-- the answer, then the changes
abbrev pub compared_numbers : Board → Board → List ℕ
compared_numbers old new = answer_number (compared_of old new).answer ∷ spoken_numbers (compared_of old new).changes

-- the answer, then the board
abbrev pub applied_numbers : Board → Changes → List ℕ
applied_numbers b cs = answer_number (applied_of b cs).answer ∷ numbers (applied_of b cs).board
