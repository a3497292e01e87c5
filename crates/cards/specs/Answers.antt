-- The answers (02, 2026-06): '14, slot owned by another group, or on claim already owned by anyone; 15, release of a slot that isn't IDLE'.
use Rattle.std.specs.Result.{result_unwrap_or}
use Rattle.std.specs.Prelude.{List, ℕ, Result, Ok, Err, if◌then◌else◌}
use Rattle.ground.specs.Plain.{◌<?◌}
use Rattle.sender.specs.declared.board.Board.{Board}
use Rattle.sender.specs.declared.ranks.Ranks.{Ranks}
use Rattle.sender.specs.declared.refusals.Refusal as F
use Rattle.sender.specs.Answers as S
use Rattle.cards.specs.declared.card.Card.{Card}
use Rattle.cards.specs.declared.refusals.Refusal.{Refusal}
use Rattle.cards.specs.declared.refusals.Refusal.TheVariants as R

pub data Answer : Type 0 where
  Done : Answer
  NoSlot : Answer
  NotAllowed : Answer
  WaitOpen : Answer
  OutOfRange : Answer
  Field : Answer
  Length : Answer
  Owned : Answer
  Used : Answer

-- what each call gives, with its answer
pub record CardOutcome : Type 0 where
  pub card : Card
  pub answer : Answer

pub record BoardOutcome : Type 0 where
  pub board : Board
  pub answer : Answer

pub record RanksOutcome : Type 0 where
  pub ranks : Ranks
  pub answer : Answer

pub record OwnedOutcome : Type 0 where
  pub owned : List ℕ
  pub answer : Answer

abbrev pub answer_number : Answer → ℕ
answer_number Done = 0
answer_number NoSlot = 1
answer_number NotAllowed = 2
answer_number WaitOpen = 3
answer_number OutOfRange = 4
answer_number Field = 8
answer_number Length = 9
answer_number Owned = 14
answer_number Used = 15

-- a sender's answer is the card's under the same number
abbrev pub from_sender : S.Answer → Answer
from_sender S.Answer.Done = Done
from_sender S.Answer.NoSlot = NoSlot
from_sender S.Answer.NotAllowed = NotAllowed
from_sender S.Answer.WaitOpen = WaitOpen
from_sender S.Answer.OutOfRange = OutOfRange
from_sender S.Answer.Field = Field
from_sender S.Answer.Length = Length

-- 'a group other than the two is 1'
abbrev pub group_answer : ℕ → Answer
group_answer g = if g <? 2 then Done else NoSlot

abbrev pub refusal_number : Refusal → ℕ
refusal_number R.NoSlot = 1
refusal_number R.NotAllowed = 2
refusal_number R.WaitOpen = 3
refusal_number R.OutOfRange = 4
refusal_number R.Field = 8
refusal_number R.Length = 9
refusal_number R.Owned = 14
refusal_number R.Used = 15

-- a sender's refusal likewise
abbrev pub from_refusal : F.Refusal → Refusal
from_refusal F.Refusal.NoSlot = R.NoSlot
from_refusal F.Refusal.NotAllowed = R.NotAllowed
from_refusal F.Refusal.WaitOpen = R.WaitOpen
from_refusal F.Refusal.OutOfRange = R.OutOfRange
from_refusal F.Refusal.Field = R.Field
from_refusal F.Refusal.Length = R.Length

-- what the code gives: under Done the value, otherwise the refusal
abbrev pub given : {T : Type 0} → Answer → T → Result T Refusal
given Done x = Ok x
given NoSlot x = Err R.NoSlot
given NotAllowed x = Err R.NotAllowed
given WaitOpen x = Err R.WaitOpen
given OutOfRange x = Err R.OutOfRange
given Field x = Err R.Field
given Length x = Err R.Length
given Owned x = Err R.Owned
given Used x = Err R.Used

abbrev pub told : CardOutcome → Result Card Refusal
told r = given r.answer r.card

abbrev pub board_told : BoardOutcome → Result Board Refusal
board_told r = given r.answer r.board

abbrev pub ranks_told : RanksOutcome → Result Ranks Refusal
ranks_told r = given r.answer r.ranks

abbrev pub owned_told : OwnedOutcome → Result (List ℕ) Refusal
owned_told r = given r.answer r.owned

-- of a call that gives its answer alone
abbrev pub only_told : Answer → Result (Unit {0}) Refusal
only_told a = given a tt

-- And back: what a caller knows who keeps the value that it passed.
abbrev pub answer_of : Refusal → Answer
answer_of R.NoSlot = NoSlot
answer_of R.NotAllowed = NotAllowed
answer_of R.WaitOpen = WaitOpen
answer_of R.OutOfRange = OutOfRange
answer_of R.Field = Field
answer_of R.Length = Length
answer_of R.Owned = Owned
answer_of R.Used = Used

abbrev pub answer_back : {T : Type 0} → Result T Refusal → Answer
answer_back (Ok x) = Done
answer_back (Err e) = answer_of e

abbrev pub outcome_back : Card → Result Card Refusal → CardOutcome
outcome_back c r = record { card = result_unwrap_or r c; answer = answer_back r }
