-- What is said of a sender after any calls: demand 2 of the tables that it keeps, what an epoch's start fixes of what every slot sends, and calls that are given bytes.
use Rattle.std.specs.Prelude.{◌≡◌, List, [], ◌∷◌, ℕ, ◌<◌}
use Rattle.sender.specs.Board.{board_of}
use Rattle.sender.specs.Epochs.{SenderCall, packet_answer, packet_bytes, packet_fields, payload_answer, payload_bytes, rank_in, x_of}
use Rattle.sender.specs.Epochs.SenderCall.{OnTable, StartEpoch}
use Rattle.sender.specs.Numbering.{Demand2}
use Rattle.sender.specs.declared.epochs.Sender.{Sender}
use Rattle.sender.specs.declared.table.Table.{Table}

-- Demand 2 of the table, and of the two tables that an epoch's start keeps: those whose boards go out now and went out before
pub record Demand2Kept (s : Sender) : Type 0 where
  pub table : Demand2 s.table
  pub outgoing_of : Table
  pub outgoing_is : s.outgoing ≡ board_of outgoing_of
  pub outgoing : Demand2 outgoing_of
  pub ruling_of : Table
  pub ruling_is : s.ruling ≡ board_of ruling_of
  pub ruling : Demand2 ruling_of

-- What every slot sends in this epoch stays as its start fixed it, whatever calls on the table come in between: packet, payload, X and ranks.
pub record Fixed (s r : Sender) : Type 0 where
  pub fields : (i : ℕ) → packet_fields r i ≡ packet_fields s i
  pub answer : (i : ℕ) (h4 : List ℕ) → packet_answer r i h4 ≡ packet_answer s i h4
  pub bytes : (i : ℕ) (h4 : List ℕ) → packet_bytes r i h4 ≡ packet_bytes s i h4
  pub x : x_of r ≡ x_of s
  pub ranks : (i : ℕ) → rank_in r i ≡ rank_in s i
  pub told : (i P frame member : ℕ) → payload_answer r i P frame member ≡ payload_answer s i P frame member
  pub carried : (i P : ℕ) (frame member : List ℕ) → payload_bytes r i P frame member ≡ payload_bytes s i P frame member

-- a call that is given bytes
abbrev pub Given : SenderCall → Type 0
Given (OnTable c) = Unit {0}
Given (StartEpoch gid mst ack) = mst < 256

abbrev pub AllGiven : List SenderCall → Type 0
AllGiven [] = Unit {0}
AllGiven (c ∷ cs) = Given c × AllGiven cs
