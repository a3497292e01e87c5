-- Every packet of a history is written. So it counts, reads back and is refused where it came changed, by the laws of what is sent.
use Rattle.std.specs.Prelude.{◌≡◌, true, List, ℕ, ◌+◌, ◌<◌, get_or, length, replicate, Ok}
use Rattle.std.proofs.Math.Path.{refl}
use Rattle.std.proofs.Common.{◌∙◌, sym, ap}
use Rattle.std.proofs.lemmas.List.{length-replicate}
use borrow.Author.Tests.{eq-eqb, lt-ltb}
use Rattle.packet.specs.Theorems.Sent as laws
use Rattle.packet.specs.Kinds.{first_tag, frames}
use Rattle.packet.specs.Sent.{sent_answer, sent_bytes}
use Rattle.sender.specs.declared.epochs.Sender.{Sender}
use Rattle.sender.specs.Answers.Answer.{Done}
use Rattle.sender.specs.Epochs.{packet_answer, packet_bytes, packet_fields}
use Rattle.sender.specs.Outcomes.{written}
use Rattle.sender.specs.Table.{slot_count}
use Rattle.sender.specs.Theorems.Packets.{packet_done, written_done}
use Rattle.step.specs.Sent.{SentWith}
use Rattle.link.specs.History.{Allowed, History, calls_to, fields_sent, packet_sent, sender_at}
use Rattle.link.specs.Proofs.Histories.Senders.{given_to, sender_in, sender_run_lem, size_at}
use Rattle.link.specs.Proofs.Laws.Counts.{tag_epoch, tag_place}
use Rattle.link.specs.Sending.{epoch_number, epoch_start}

-- what a sender writes whose packet is not refused
module _ (s : Sender) (slot : ℕ) (h4 : List ℕ) (below : slot < slot_count s.table.count) (room : length h4 ≡ frames s.table.kind) (begun : s.begun ≡ true) where
  bytes_are : packet_bytes s slot h4 ≡ sent_bytes s.table.kind (packet_fields s slot) h4
  unfolding packet_bytes
  bytes_are = rw (lt-ltb slot (slot_count s.table.count) below, eq-eqb (length h4) (frames s.table.kind) room, begun) refl

  answer_is : packet_answer s slot h4 ≡ written (sent_answer s.table.kind (packet_fields s slot) h4)
  unfolding packet_answer
  answer_is = rw (lt-ltb slot (slot_count s.table.count) below, eq-eqb (length h4) (frames s.table.kind) room, begun) refl

-- its epoch is the history's, and its GID the one lent
pub packet_epoch : (h : History) → Allowed h → (i slot : ℕ) → (fields_sent h i slot).epoch ≡ epoch_number h.kind h.first i
unfolding packet_fields
packet_epoch h a i slot = (sender_in h a i).epoch

pub packet_gid : (h : History) → Allowed h → (i slot : ℕ) → (fields_sent h i slot).gid ≡ h.gid i
unfolding packet_fields
packet_gid h a i slot = (sender_in h a i).gid

module _ (h : History) (a : Allowed h) (i slot : ℕ) (b : slot < h.slots) where
  below : slot < slot_count (sender_at h i).table.count
  below = rw (size_at h a i) b

  module _ (h4 : List ℕ) (long : length h4 ≡ frames h.kind) where
    room : length h4 ≡ frames (sender_at h i).table.kind
    room = long ∙ ap frames (sym (sender_in h a i).kind)

    pub packet_answered : packet_answer (sender_at h i) slot h4 ≡ Done
    packet_answered =
        rw (sender_run_lem h i)
        (packet_done h.kind h.slots h.first (calls_to h i) a.first (given_to h a i) (rw (sender_run_lem h i) at (sender_in h a i).begun) slot
        (rw (sender_run_lem h i) at below) h4 (rw (sender_run_lem h i) at room))

    -- written as the kind's packets are
    sent_done : sent_answer h.kind (fields_sent h i slot) h4 ≡ Ok tt
    sent_done =
        ap (λ (kind : ℕ). sent_answer kind (fields_sent h i slot) h4) (sym (sender_in h a i).kind)
        ∙ written_done (sent_answer (sender_at h i).table.kind (fields_sent h i slot) h4) (sym (answer_is (sender_at h i) slot h4 below room (sender_in h a i).begun) ∙ packet_answered)

    sent_as : packet_bytes (sender_at h i) slot h4 ≡ sent_bytes h.kind (fields_sent h i slot) h4
    sent_as =
        bytes_are (sender_at h i) slot h4 below room (sender_in h a i).begun ∙ ap (λ (kind : ℕ). sent_bytes kind (fields_sent h i slot) h4) (sender_in h a i).kind

  blank_long : length {A = ℕ} (replicate (frames h.kind) 0) ≡ frames h.kind
  blank_long = length-replicate (frames h.kind) 0

  pub packet_wrote : sent_answer h.kind (fields_sent h i slot) (replicate (frames h.kind) 0) ≡ Ok tt
  packet_wrote = sent_done (replicate (frames h.kind) 0) blank_long

  pub packet_is : packet_sent h i slot ≡ sent_bytes h.kind (fields_sent h i slot) (replicate (frames h.kind) 0)
  unfolding packet_sent
  packet_is = sent_as (replicate (frames h.kind) 0) blank_long

  -- whatever bytes are lent
  pub packet_any : (h4 : List ℕ) → length h4 ≡ frames h.kind → packet_bytes (sender_at h i) slot h4 ≡ packet_sent h i slot
  packet_any h4 long = sent_as h4 long ∙ laws.sent_same h.kind (fields_sent h i slot) h4 (replicate (frames h.kind) 0) (sent_done h4 long) packet_wrote ∙ sym packet_is

  -- and its frames count
  pub sent_counts : (k : ℕ) → k < frames h.kind → SentWith h.kind (first_tag h.kind h.first + (epoch_start h.kind i + k)) (get_or (packet_sent h i slot) k 0)
  sent_counts k l =
      let there = (laws.sent_as h.kind (fields_sent h i slot) (replicate (frames h.kind) 0) packet_wrote).told (first_tag h.kind h.first + (epoch_start h.kind i + k))
      (packet_epoch h a i slot ∙ sym (tag_epoch h.kind h.first i k l)) in
      rw packet_is (rw (tag_place h.kind h.first i k l) at there)
