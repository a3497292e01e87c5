-- The sender's calls, what each gives, and runs of them.
use Rattle.std.specs.Prelude.{List, [], ◌∷◌, ℕ}
use Rattle.sender.specs.Answers.{Outcome}
use Rattle.sender.specs.declared.table.Table.{Table}
use Rattle.sender.specs.Commands.{add_of, lapse_of, remove_of}
use Rattle.sender.specs.Reports.{report_of}

pub data Call : Type 0 where
  AddSlot : ℕ → Call
  RemoveSlot : ℕ → Call
  Report : (epoch mst ack : ℕ) → Call
  Lapse : Call

abbrev pub outcome_of : Table → Call → Outcome
outcome_of t (AddSlot i) = add_of t i
outcome_of t (RemoveSlot i) = remove_of t i
outcome_of t (Report e mst ack) = report_of t e mst ack
outcome_of t Lapse = lapse_of t

-- each call on the table that the one before returned
abbrev pub run : Table → List Call → Table
run t [] = t
run t (c ∷ cs) = run (outcome_of t c).table cs
