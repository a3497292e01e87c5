-- What theorems say of boards, changes and runs (request 2026-10).
use Rattle.std.specs.Prelude.{◌≡◌, Bool, true, false, ◌&&◌, List, [], ◌∷◌, ◌++◌, ℕ, ◌+◌, ◌<◌, take, if◌then◌else◌, ◌==◌}
use Rattle.ground.specs.Plain.{◌≤?◌}
use Rattle.ground.specs.Counting.Words.{count}
use Rattle.sender.specs.Board.{board_of}
use Rattle.sender.specs.Numbering.{Demand2}
use Rattle.sender.specs.Ranks.{row_at}
use Rattle.sender.specs.declared.board.Board.{Board}
use Rattle.sender.specs.declared.board.Row.{Row}
use Rattle.sender.specs.declared.table.Table.{Table}
use Rattle.spoken.specs.Changes.{change_at, changed}
use Rattle.spoken.specs.Fitting.{Fits, spoken}
use Rattle.spoken.specs.Runs.{spread_run}
use Rattle.spoken.specs.Speaking.{is_shown}
use Rattle.spoken.specs.declared.lists.Change.{Change}
use Rattle.spoken.specs.declared.lists.Changes.{Changes}
use Rattle.spoken.specs.declared.lists.WaitChange.{WaitChange}
use Rattle.spoken.specs.declared.lists.WaitChange.TheVariants.{Closed, Opened, Same}
use Rattle.spoken.specs.declared.runs.Run.{Run}

-- what a spoken change is: a slot below n that has changed, with its old and its new row
pub record Told (old new : List Row) (n : ℕ) (c : Change) : Type 0 where
  pub below : c.slot < n
  pub is : c ≡ change_at old new c.slot
  pub differs : changed old new c.slot ≡ true

-- the wait is in the changes if it differs, and if it is in them it differs
pub record WaitTold (old new : Bool) (w : WaitChange) : Type 0 where
  pub same : old ≡ new → w ≡ Same
  pub same_back : w ≡ Same → old ≡ new
  pub opened : old ≡ false → new ≡ true → w ≡ Opened
  pub opened_back : w ≡ Opened → (old ≡ false) × (new ≡ true)
  pub closed : old ≡ true → new ≡ false → w ≡ Closed
  pub closed_back : w ≡ Closed → (old ≡ true) × (new ≡ false)

-- the changes say exactly what differs between two boards
pub record Exactly (old new : Board) (cs : Changes) : Type 0 where
  -- a slot of the boards is in the changes once if its rows differ, else not at all
  pub once : (i : ℕ) → i < old.count → count cs.count (λ k. (spoken cs k).slot == i) ≡ (if changed old.rows new.rows i then 1 else 0)
  -- each change is of a slot of the boards, which differs, with its old and its new row
  pub told : (k : ℕ) → k < cs.count → Told old.rows new.rows old.count (spoken cs k)
  pub rising : (i j : ℕ) → i < j → j < cs.count → (spoken cs i).slot < (spoken cs j).slot
  pub wait : WaitTold old.wait new.wait cs.wait

-- the count, the wait and each slot below the count are the other board's
pub record Agrees (b new : Board) : Type 0 where
  pub count : b.count ≡ new.count
  pub wait : b.wait ≡ new.wait
  pub rows : (i : ℕ) → i < new.count → row_at b.rows i ≡ row_at new.rows i

-- the same changes; what stands behind their count is not looked at
pub record SameChanges (cs ds : Changes) : Type 0 where
  pub count : cs.count ≡ ds.count
  pub list : take cs.count cs.list ≡ take ds.count ds.list
  pub wait : cs.wait ≡ ds.wait

-- changes that can be spoken: they fit a board, and each row has a word that is shown
pub record Speaks (cs : Changes) : Type 0 where
  -- a board that they fit
  pub board : Board
  pub fits : Fits board cs
  pub old : (k : ℕ) → k < cs.count → is_shown (spoken cs k).old.word ≡ true
  pub new : (k : ℕ) → k < cs.count → is_shown (spoken cs k).new.word ≡ true

-- what is known is the board of one table, as demand 2 asks
pub record OneTable (b : Board) : Type 0 where
  pub source : Table
  pub is : b ≡ board_of source
  pub demand2 : Demand2 source

-- no run has the changes of a run and the first one behind it
abbrev pub Ends : (run : Run) (behind : List Run) → Type 0
Ends run [] = Unit {0}
Ends run (next ∷ runs) = (q : Run) → spread_run q ≡ spread_run run ++ (next.first ∷ []) → ⊥

abbrev pub AllEnd : List Run → Type 0
AllEnd [] = Unit {0}
AllEnd (run ∷ runs) = Ends run runs × AllEnd runs

-- whether a run tells of a slot, and how many of some runs do
abbrev pub tells_of : (run : Run) (slot : ℕ) → Bool
tells_of run slot = run.first.slot ≤? slot && slot ≤? run.last.slot

abbrev pub runs_with : (slot : ℕ) (runs : List Run) → ℕ
runs_with slot [] = 0
runs_with slot (run ∷ runs) = (if tells_of run slot then 1 else 0) + runs_with slot runs
