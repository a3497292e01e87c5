-- The answers of the sender's calls (01, 'Answer numbers'), and what each call gives: the table or the sender afterwards, with its answer. The code gives a Result of it.
use Rattle.std.specs.Result.{result_unwrap_or}
use Rattle.std.specs.Prelude.{ℕ, Result, Ok, Err}
use Rattle.packet.specs.declared.writer.Unwritten.{Unwritten}
use Rattle.packet.specs.declared.writer.Unwritten.TheVariants as W
use Rattle.sender.specs.declared.epochs.Sender.{Sender}
use Rattle.sender.specs.declared.refusals.Refusal.{Refusal}
use Rattle.sender.specs.declared.refusals.Refusal.TheVariants as R
use Rattle.sender.specs.declared.table.Table.{Table}

pub data Answer : Type 0 where
  Done : Answer
  NoSlot : Answer
  NotAllowed : Answer
  WaitOpen : Answer
  OutOfRange : Answer
  Field : Answer
  Length : Answer

pub record Outcome : Type 0 where
  pub table : Table
  pub answer : Answer

pub record SenderOutcome : Type 0 where
  pub sender : Sender
  pub answer : Answer

-- 01's number for each refusal
abbrev pub refusal_number : Refusal → ℕ
refusal_number R.NoSlot = 1
refusal_number R.NotAllowed = 2
refusal_number R.WaitOpen = 3
refusal_number R.OutOfRange = 4
refusal_number R.Field = 8
refusal_number R.Length = 9

-- a packet that was not written
abbrev pub unwritten_as : Unwritten → Refusal
unwritten_as W.Length = R.Length
unwritten_as W.Field = R.Field

-- what the code gives: under Done the value, otherwise the refusal
abbrev pub given : {T : Type 0} → Answer → T → Result T Refusal
given Done x = Ok x
given NoSlot x = Err R.NoSlot
given NotAllowed x = Err R.NotAllowed
given WaitOpen x = Err R.WaitOpen
given OutOfRange x = Err R.OutOfRange
given Field x = Err R.Field
given Length x = Err R.Length

abbrev pub told : Outcome → Result Table Refusal
told r = given r.answer r.table

abbrev pub sender_told : SenderOutcome → Result Sender Refusal
sender_told r = given r.answer r.sender

-- of a call that gives its answer alone
abbrev pub only_told : Answer → Result (Unit {0}) Refusal
only_told a = given a tt

-- And back: what a caller knows who keeps the value that it passed.
abbrev pub answer_of : Refusal → Answer
answer_of R.NoSlot = NoSlot
answer_of R.NotAllowed = NotAllowed
answer_of R.WaitOpen = WaitOpen
answer_of R.OutOfRange = OutOfRange
answer_of R.Field = Field
answer_of R.Length = Length

abbrev pub answer_back : {T : Type 0} → Result T Refusal → Answer
answer_back (Ok x) = Done
answer_back (Err e) = answer_of e

abbrev pub outcome_back : Table → Result Table Refusal → Outcome
outcome_back t r = record { table = result_unwrap_or r t; answer = answer_back r }

abbrev pub sender_back : Sender → Result Sender Refusal → SenderOutcome
sender_back s r = record { sender = result_unwrap_or r s; answer = answer_back r }
