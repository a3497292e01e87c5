-- What the calls of 02 answer (2026-10), and what comes with an answer: under a refusal the board as it was given, no changes, no bytes written.
use Rattle.std.specs.Prelude.{ℕ, Result, Ok, Err}
use Rattle.sender.specs.declared.board.Board.{Board}
use Rattle.spoken.specs.declared.lists.Changes.{Changes}
use Rattle.spoken.specs.declared.lists.Refusal.{Refusal}
use Rattle.spoken.specs.declared.lists.Refusal.TheVariants as R

pub data Answer : Type 0 where
  Done : Answer
  Unfit : Answer
  Counts : Answer
  Length : Answer

pub record Applied : Type 0 where
  pub board : Board
  pub answer : Answer

pub record Compared : Type 0 where
  pub changes : Changes
  pub answer : Answer

-- written: how many bytes the lines take
pub record Speech : Type 0 where
  pub answer : Answer
  pub written : ℕ

-- As the code has it: what a call gives where it is done, and what it is refused for where it is not.
abbrev pub told_by : {T : Type 0} → Answer → T → Result T Refusal
told_by Done given = Ok given
told_by Unfit given = Err R.Unfit
told_by Counts given = Err R.Counts
told_by Length given = Err R.Length

abbrev pub told_board : Applied → Result Board Refusal
told_board a = told_by a.answer a.board

abbrev pub told_changes : Compared → Result Changes Refusal
told_changes c = told_by c.answer c.changes

abbrev pub told_length : Speech → Result ℕ Refusal
told_length s = told_by s.answer s.written

-- 01's number for each refusal
abbrev pub refusal_number : Refusal → ℕ
refusal_number R.Unfit = 2
refusal_number R.Counts = 4
refusal_number R.Length = 9

-- And back: of a refused call the caller knows all that there is. The board is the one that was given, and no byte is written.
abbrev pub answer_of : Refusal → Answer
answer_of R.Unfit = Unfit
answer_of R.Counts = Counts
answer_of R.Length = Length

abbrev pub board_back : (given : Board) → Result Board Refusal → Applied
board_back given (Ok board) = record { board = board; answer = Done }
board_back given (Err refusal) = record { board = given; answer = answer_of refusal }

abbrev pub changes_back : (none : Changes) → Result Changes Refusal → Compared
changes_back none (Ok changes) = record { changes = changes; answer = Done }
changes_back none (Err refusal) = record { changes = none; answer = answer_of refusal }

abbrev pub length_back : Result ℕ Refusal → Speech
length_back (Ok written) = record { answer = Done; written = written }
length_back (Err refusal) = record { answer = answer_of refusal; written = 0 }
