-- The spoken changes: 'slot, old state and number, new state and number, in slot order, then the wait if it differs.' (02, 2026-10)
use Rattle.std.specs.Prelude.{Bool, not, ◌&&◌, List, [], ◌∷◌, ◌++◌, ℕ, zero, suc, drop, length, replicate, if◌then◌else◌, ◌==◌}
use Rattle.std.specs.Bool.{beq}
use Rattle.ground.specs.Plain.{◌≤?◌}
use Rattle.sender.specs.declared.board.Board.{Board}
use Rattle.sender.specs.declared.board.Row.{Row}
use Rattle.sender.specs.Ranks.{row_at}
use Rattle.spoken.specs.Answers.{Compared}
use Rattle.spoken.specs.Answers.{Answer}
use Rattle.spoken.specs.Answers.Answer.{Done, Unfit, Counts, Length}
use Rattle.spoken.specs.declared.lists.Change.{Change}
use Rattle.spoken.specs.declared.lists.Changes.{Changes}
use Rattle.spoken.specs.declared.lists.WaitChange.{WaitChange}
use Rattle.spoken.specs.declared.lists.WaitChange.TheVariants.{Same, Opened, Closed}

-- 01's number for each answer
abbrev pub answer_number : Answer → ℕ
answer_number Done = 0
answer_number Unfit = 2
answer_number Counts = 4
answer_number Length = 9

abbrev pub same_row : Row → Row → Bool
same_row a b = a.word.0 == b.word.0 && a.number == b.number

-- a slot has changed where its word or its number differs, 'EOS to NORM too'
abbrev pub changed : (old new : List Row) (slot : ℕ) → Bool
changed old new i = not (same_row (row_at old i) (row_at new i))

abbrev pub change_at : (old new : List Row) (slot : ℕ) → Change
change_at old new i = record { slot = i; old = row_at old i; new = row_at new i }

-- 'Each changed slot is spoken once, .. no other', 'in slot order': of the first n slots
abbrev pub spoken_to : (old new : List Row) (count : ℕ) → List Change
spoken_to old new zero = []
spoken_to old new (suc n) = spoken_to old new n ++ (if changed old new n then change_at old new n ∷ [] else [])

abbrev pub no_change : Change
no_change = record { slot = 0; old = record { word = record { 0 = 0 }; number = 0 }; new = record { word = record { 0 = 0 }; number = 0 } }

-- a list of 64 that begins with these
unfoldable pub list_of : List Change → List Change
list_of spoken = spoken ++ drop (length spoken) (replicate 64 no_change)

unfoldable pub changes_in : (old new : List Row) (count : ℕ) (wait : WaitChange) → Changes
changes_in old new n wait = record { list = list_of (spoken_to old new n); count = length (spoken_to old new n); wait = wait }

-- 'the wait if it differs'
abbrev pub wait_change : Bool → Bool → WaitChange
wait_change old new = if beq old new then Same else if new then Opened else Closed

unfoldable pub changes_of : Board → Board → Changes
changes_of old new = changes_in old.rows new.rows old.count (wait_change old.wait new.wait)

unfoldable pub no_changes : Changes
no_changes = record { list = replicate 64 no_change; count = 0; wait = Same }

-- 'different counts is 4', and a count above 64, which no call returns
abbrev pub comparable : Board → Board → Bool
comparable old new = old.count == new.count && old.count ≤? 64

unfoldable pub compared_of : Board → Board → Compared
compared_of old new = if comparable old new then (record { changes = changes_of old new; answer = Done }) else (record { changes = no_changes; answer = Counts })
