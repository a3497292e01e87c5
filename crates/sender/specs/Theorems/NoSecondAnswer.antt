-- No second result, state, board or lent byte meets what the calls promise. A refused call gives its refusal alone, and whoever keeps what it was given, of a start the empty group, has no second outcome either.
use Rattle.std.specs.Prelude.{◌≡◌, List, ℕ, Result, Ok, length}
use Rattle.std.proofs.Common.{◌∙◌, ap, sym}
use Rattle.sender.specs.declared.board.Board.{Board}
use Rattle.sender.specs.declared.epochs.Sender.{Sender}
use Rattle.sender.specs.declared.ranks.Ranks.{Ranks}
use Rattle.sender.specs.declared.refusals.Refusal.{Refusal}
use Rattle.sender.specs.declared.table.Table.{Table}
use Rattle.sender.specs.Answers.{only_told, outcome_back, sender_back, sender_told, told}
use Rattle.sender.specs.Board.{board_of}
use Rattle.sender.specs.Calls.{Call, outcome_of}
use Rattle.sender.specs.Calls.Call.{Report}
use Rattle.sender.specs.Commands.{start_of}
use Rattle.sender.specs.Epochs.{SenderCall, begin_of, packet_answer, packet_bytes, payload_answer, payload_bytes, ranks_of, sender_outcome_of}
use Rattle.sender.specs.Epochs.SenderCall.{OnTable}
use Rattle.sender.specs.Theorems.Told.{begin_lost, nothing_lost, report_told, sender_lost, start_lost, table_reported}

pub start_only : (kind count : ℕ) (r q : Result Table Refusal) → r ≡ told (start_of kind count) → q ≡ told (start_of kind count)
    → (r ≡ q) × (outcome_back (start_of kind 0).table r ≡ start_of kind count)
start_only kind count r q a b = (a ∙ sym b, ap (outcome_back (start_of kind 0).table) a ∙ start_lost kind count)

pub call_only : (t : Table) (c : Call) (r q : Result Table Refusal) → r ≡ told (outcome_of t c) → q ≡ told (outcome_of t c) → (r ≡ q) × (outcome_back t r ≡ outcome_of t c)
call_only t c r q a b = (a ∙ sym b, ap (outcome_back t) a ∙ nothing_lost t c)

-- a report gives its table bare, which is its whole outcome
pub report_only : (t : Table) (e mst ack : ℕ) (r q : Table) → r ≡ (outcome_of t (Report e mst ack)).table → q ≡ (outcome_of t (Report e mst ack)).table
    → (r ≡ q) × (Ok r ≡ told (outcome_of t (Report e mst ack)))
report_only t e mst ack r q a b = (a ∙ sym b, ap Ok a ∙ sym (table_reported t e mst ack))

pub board_only : (t : Table) (r q : Board) → r ≡ board_of t → q ≡ board_of t → r ≡ q
board_only t r q a b = a ∙ sym b

pub begin_only : (kind count e : ℕ) (r q : Result Sender Refusal) → r ≡ sender_told (begin_of kind count e) → q ≡ sender_told (begin_of kind count e)
    → (r ≡ q) × (sender_back (begin_of kind 0 e).sender r ≡ begin_of kind count e)
begin_only kind count e r q a b = (a ∙ sym b, ap (sender_back (begin_of kind 0 e).sender) a ∙ begin_lost kind count e)

pub sender_only : (s : Sender) (c : SenderCall) (r q : Result Sender Refusal) → r ≡ sender_told (sender_outcome_of s c) → q ≡ sender_told (sender_outcome_of s c)
    → (r ≡ q) × (sender_back s r ≡ sender_outcome_of s c)
sender_only s c r q a b = (a ∙ sym b, ap (sender_back s) a ∙ sender_lost s c)

pub sender_report_only : (s : Sender) (e mst ack : ℕ) (r q : Sender) → r ≡ (sender_outcome_of s (OnTable (Report e mst ack))).sender → q ≡ (sender_outcome_of s (OnTable (Report e mst ack))).sender
    → (r ≡ q) × (Ok r ≡ sender_told (sender_outcome_of s (OnTable (Report e mst ack))))
sender_report_only s e mst ack r q a b = (a ∙ sym b, ap Ok a ∙ sym (report_told s e mst ack))

pub ranks_only : (s : Sender) (r q : Ranks) → r ≡ ranks_of s → q ≡ ranks_of s → r ≡ q
ranks_only s r q a b = a ∙ sym b

-- what packet promises of its result r and the H4 bytes t that it leaves
pub record Sends (s : Sender) (i : ℕ) (h4 : List ℕ) (r : Result (Unit {0}) Refusal) (t : List ℕ) : Type 0 where
  pub answer : r ≡ only_told (packet_answer s i h4)
  pub bytes : t ≡ packet_bytes s i h4

pub packet_only : (s : Sender) (i : ℕ) (h4 : List ℕ) (r q : Result (Unit {0}) Refusal) (t u : List ℕ) → Sends s i h4 r t → Sends s i h4 q u → (r ≡ q) × (t ≡ u)
packet_only s i h4 r q t u a b = (a.answer ∙ sym b.answer, a.bytes ∙ sym b.bytes)

-- what payload promises of its result r and the member's bytes t that it leaves
pub record Carries (s : Sender) (i P : ℕ) (frame member : List ℕ) (r : Result (Unit {0}) Refusal) (t : List ℕ) : Type 0 where
  pub answer : r ≡ only_told (payload_answer s i P (length frame) (length member))
  pub bytes : t ≡ payload_bytes s i P frame member

pub payload_only : (s : Sender) (i P : ℕ) (frame member : List ℕ) (r q : Result (Unit {0}) Refusal) (t u : List ℕ) → Carries s i P frame member r t → Carries s i P frame member q u
    → (r ≡ q) × (t ≡ u)
payload_only s i P frame member r q t u a b = (a.answer ∙ sym b.answer, a.bytes ∙ sym b.bytes)
