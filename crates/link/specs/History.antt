-- Our sender's side of demand 3: 'any client bytes and any history of members our sender allows from one start', and what each slot then sends.
use Rattle.std.specs.Prelude.{◌≡◌, Bool, true, false, not, List, [], ◌∷◌, ◌++◌, ℕ, zero, suc, ◌*◌, ◌≤◌, ◌<◌, length, replicate, if◌then◌else◌, ◌==◌}
use Rattle.ground.specs.Types.{Bytes}
use Rattle.packet.specs.Changes.{most_changes}
use Rattle.packet.specs.declared.layout.Fields.{Fields}
use Rattle.packet.specs.Kinds.{epochs, fixed_kind, frames, payload_right}
use Rattle.sender.specs.Epochs.{SenderCall, begin_of, on_table, packet_bytes, packet_fields, payload_bytes, rank_in, sender_outcome_of, sender_run, x_of}
use Rattle.sender.specs.declared.epochs.Sender.{Sender}
use Rattle.sender.specs.Calls.{Call}
use Rattle.sender.specs.Epochs.SenderCall.{StartEpoch}
use Rattle.sender.specs.Ranks.{no_rank}
use Rattle.link.specs.Sending.{Client, Sending, epoch_at}

-- One start, the number of its first epoch, and for each epoch the commands and reports that come before its start, and the GID, MST and RS-Ack lent to it.
pub record History : Type 0 where
  pub kind : ℕ
  pub slots : ℕ
  pub first : ℕ
  pub before : ℕ → List Call
  pub gid : ℕ → ℕ
  pub mst : ℕ → ℕ
  pub ack : ℕ → ℕ

-- 'A group has 1 to 64 slots at the sender'; a fixed group (request 2026-12) is none of our sender's; the numbers lent are a byte's or a bit's. Which commands and reports come is free: one that is refused changes nothing.
pub record Allowed (h : History) : Type 0 where
  pub lcas : (h.kind == fixed_kind) ≡ false
  pub some : 1 ≤ h.slots
  pub most : h.slots ≤ 64
  pub first : h.first < epochs h.kind
  pub gid : (i : ℕ) → h.gid i < 2
  pub mst : (i : ℕ) → h.mst i < 256
  pub ack : (i : ℕ) → h.ack i < 2

-- the i-th epoch started on a sender, after the calls before it
abbrev pub started_on : (h : History) (i : ℕ) (s : Sender) → Sender
started_on h i s = (sender_outcome_of (sender_run s (on_table (h.before i))) (StartEpoch (h.gid i) (h.mst i) (h.ack i))).sender

-- the sender in its i-th epoch
unfoldable pub sender_at : History → ℕ → Sender
sender_at h zero = started_on h zero (begin_of h.kind h.slots h.first).sender
sender_at h (suc i) = started_on h (suc i) (sender_at h i)

-- X of the i-th epoch
abbrev pub x_at : History → ℕ → ℕ
x_at h i = x_of (sender_at h i)

-- A slot's packet in the i-th epoch: its fields, the word and number among them, and its H4 bytes.

abbrev pub fields_sent : (h : History) (i slot : ℕ) → Fields
fields_sent h i slot = packet_fields (sender_at h i) slot

abbrev pub word_sent : (h : History) (i slot : ℕ) → ℕ
word_sent h i slot = (fields_sent h i slot).word.0

abbrev pub number_sent : (h : History) (i slot : ℕ) → ℕ
number_sent h i slot = (fields_sent h i slot).sq

unfoldable pub packet_sent : (h : History) (i slot : ℕ) → Bytes
packet_sent h i slot = packet_bytes (sender_at h i) slot (replicate (frames h.kind) 0)

-- 'Payload of P bytes per member frame, P from 1 to 2,340', and a group frame has X x P bytes
pub record Handed (h : History) (P : ℕ) (client : Client) : Type 0 where
  pub least : 1 ≤ P
  pub most : P ≤ 2340
  -- of VC-12 'P is 136' (02, 2026-01)
  pub payload_right_lem : payload_right h.kind P ≡ true
  pub whole : (x : ℕ) → length (client x) ≡ x_at h (epoch_at h.kind x) * P

-- the payload bytes of a slot in the frame at x
unfoldable pub payload_sent : (h : History) (P : ℕ) (client : Client) (x slot : ℕ) → Bytes
payload_sent h P client x slot = payload_bytes (sender_at h (epoch_at h.kind x)) slot P (client x) (replicate P 0)

-- the slot has a rank in the epoch of the frame at x
unfoldable pub has_rank : (h : History) (x slot : ℕ) → Bool
has_rank h x slot = not (rank_in (sender_at h (epoch_at h.kind x)) slot == no_rank)

-- What a history sends. A slot with no rank carries none of the client's bytes: whatever else it carries is given.
abbrev pub sending_of : (h : History) (P : ℕ) (client : Client) (unranked : ℕ → ℕ → List ℕ) → Sending
sending_of h P client unranked =
    record {
      kind = h.kind;
      slots = h.slots;
      first = h.first;
      packet = packet_sent h;
      word = word_sent h;
      number = number_sent h;
      gid = λ i slot. (fields_sent h i slot).gid;
      x = x_at h;
      payload = λ x slot. if has_rank h x slot then payload_sent h P client x slot else unranked x slot;
      changes = most_changes h.kind;
    }

-- the calls before an epoch and its start, and all calls up to that
abbrev pub calls_before : History → ℕ → List SenderCall
calls_before h i = on_table (h.before i) ++ (StartEpoch (h.gid i) (h.mst i) (h.ack i) ∷ [])

abbrev pub calls_to : History → ℕ → List SenderCall
calls_to h zero = calls_before h zero
calls_to h (suc i) = calls_to h i ++ calls_before h (suc i)
