-- The start of an epoch (01, 'Taking effect'), and what each slot sends in it.
use Rattle.std.specs.Prelude.{true, false, ◌&&◌, List, [], ◌∷◌, ℕ, length, if◌then◌else◌, ◌==◌}
use Rattle.ground.specs.Plain.{◌<?◌}
use Rattle.ground.specs.Types.{Bytes, Epoch}
use Rattle.packet.specs.declared.layout.Fields.{Fields}
use Rattle.packet.specs.Kinds.{epoch_after, frames, payload_right}
use Rattle.packet.specs.Sent.{sent_answer, sent_bytes}
use Rattle.payload.specs.Spreading.{one_answer, spread_one}
use Rattle.sender.specs.declared.epochs.Sender.{Sender}
use Rattle.sender.specs.Answers.{SenderOutcome, Answer, Outcome}
use Rattle.sender.specs.declared.ranks.Ranks.{Ranks}
use Rattle.sender.specs.Answers.Answer.{Done, NoSlot, NotAllowed, Field, Length, OutOfRange}
use Rattle.sender.specs.declared.table.Table.{Table}
use Rattle.sender.specs.Board.{board_of}
use Rattle.sender.specs.Calls.{Call, outcome_of}
use Rattle.sender.specs.Commands.{start_of}
use Rattle.sender.specs.Outcomes.{spread_early, spread_told, written}
use Rattle.sender.specs.Ranks.{carriers_in, rank_at, ranks_in, row_at}
use Rattle.sender.specs.Table.{slot_count}

-- no epoch has started: nothing has gone out, so 'a sender's first epoch has X = 0'
unfoldable pub fresh_sender : Table → Epoch → Sender
fresh_sender t e = record { table = t; outgoing = board_of t; ruling = board_of t; epoch = e; begun = false; gid = 0; mst = 0; rs_ack = 0 }

unfoldable pub begin_of : (kind count : ℕ) (epoch : Epoch) → SenderOutcome
begin_of kind count e = record { sender = fresh_sender (start_of kind count).table e; answer = (start_of kind count).answer }

-- a call on the table leaves what the epoch's start fixed
abbrev pub with_outcome : Sender → Outcome → SenderOutcome
with_outcome s r =
    record {
      sender = record { table = r.table; outgoing = s.outgoing; ruling = s.ruling; epoch = s.epoch; begun = s.begun; gid = s.gid; mst = s.mst; rs_ack = s.rs_ack };
      answer = r.answer;
    }

-- the number of the epoch that starts: the first one's is given, then each is one more
unfoldable pub started_epoch : Sender → Epoch
started_epoch s = if s.begun then epoch_after s.table.kind s.epoch else s.epoch

-- 'The packets of one epoch rule the payload of the next epoch'
unfoldable pub started_sender : (s : Sender) (gid mst ack : ℕ) → Sender
started_sender s gid mst ack =
    record { table = s.table; outgoing = board_of s.table; ruling = s.outgoing; epoch = started_epoch s; begun = true; gid = gid; mst = mst; rs_ack = ack }

-- 8: 'a field given for writing is too large'
unfoldable pub start_epoch_of : (s : Sender) (gid mst ack : ℕ) → SenderOutcome
start_epoch_of s gid mst ack =
    if gid <? 2 && ack <? 2 then (record { sender = started_sender s gid mst ack; answer = Done }) else (record { sender = s; answer = Field })

pub data SenderCall : Type 0 where
  OnTable : Call → SenderCall
  StartEpoch : (gid mst ack : ℕ) → SenderCall

abbrev pub sender_outcome_of : Sender → SenderCall → SenderOutcome
sender_outcome_of s (OnTable c) = with_outcome s (outcome_of s.table c)
sender_outcome_of s (StartEpoch gid mst ack) = start_epoch_of s gid mst ack

abbrev pub sender_run : Sender → List SenderCall → Sender
sender_run s [] = s
sender_run s (c ∷ cs) = sender_run (sender_outcome_of s c).sender cs

-- a sender made by calls from a start
abbrev pub sender_after : (kind count : ℕ) (epoch : Epoch) (cs : List SenderCall) → Sender
sender_after kind count e cs = sender_run (begin_of kind count e).sender cs

-- calls on the table alone
abbrev pub on_table : List Call → List SenderCall
on_table [] = []
on_table (c ∷ cs) = OnTable c ∷ on_table cs

-- 'GID is lent by the caller and is equal in all packets of an epoch.' 'Our sender still writes zeros' for reserved bits (request 2026-08).
unfoldable pub packet_fields : Sender → ℕ → Fields
packet_fields s i =
    let row = row_at s.outgoing.rows i in
    record { epoch = s.epoch; word = row.word; gid = s.gid; mst = s.mst; rs_ack = s.rs_ack; sq = row.number; reserved = 0 }

-- The packet of a slot: 1, 9, 2.
unfoldable pub packet_answer : (s : Sender) (slot : ℕ) (h4 : Bytes) → Answer
packet_answer s i h4 =
    if i <? slot_count s.table.count
    then (if length h4 == frames s.table.kind then (if s.begun then written (sent_answer s.table.kind (packet_fields s i) h4) else NotAllowed) else Length)
    else NoSlot

unfoldable pub packet_bytes : (s : Sender) (slot : ℕ) (h4 : Bytes) → Bytes
packet_bytes s i h4 =
    if i <? slot_count s.table.count && length h4 == frames s.table.kind && s.begun then sent_bytes s.table.kind (packet_fields s i) h4 else h4

-- X of this epoch, and the rank of a slot in it
abbrev pub x_of : Sender → ℕ
x_of s = carriers_in s.ruling.rows (slot_count s.ruling.count)

abbrev pub rank_in : Sender → ℕ → ℕ
rank_in s i = rank_at s.ruling.rows (slot_count s.ruling.count) i

-- The payload of a slot: 1, 4, 9, 2. A P that is not the kind's own (02, 2026-01: 'P is 136') is 4.
unfoldable pub payload_answer : (s : Sender) (slot P frame member : ℕ) → Answer
payload_answer s i P frame member =
    if i <? slot_count s.table.count
    then (if payload_right s.table.kind P
    then (if s.begun then spread_told (one_answer (x_of s) P frame member) else spread_early (one_answer (x_of s) P frame member))
    else OutOfRange)
    else NoSlot

unfoldable pub payload_bytes : (s : Sender) (slot P : ℕ) (frame member : Bytes) → Bytes
payload_bytes s i P frame member =
    if i <? slot_count s.table.count && payload_right s.table.kind P && s.begun then spread_one (x_of s) P (rank_in s i) frame member else member

-- this epoch's number, X and each slot's rank
unfoldable pub ranks_of : Sender → Ranks
ranks_of s =
    let n = slot_count s.ruling.count in
    record { ranks = ranks_in s.ruling.rows n; count = n; epoch = s.epoch; x = x_of s; begun = s.begun }
