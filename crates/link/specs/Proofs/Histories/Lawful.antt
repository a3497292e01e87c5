-- A history that our sender allows is a lawful sending side. Of its packets four laws over the kind are cited: they are as long as the epoch, count, read back, and are refused where they came changed.
use Rattle.std.specs.Prelude.{◌≡◌, false, List, ℕ, ◌≤◌, ◌<◌, length, replicate, Ok}
use Rattle.packet.specs.Changes.{changed, most_changes}
use Rattle.packet.specs.Kinds.{frames}
use Rattle.packet.specs.Ruling.{ruling_by}
use Rattle.packet.specs.Symbols.{packet_row}
use Rattle.step.specs.OwnCount.{odd_packet, own_ruling}
use Rattle.step.specs.Theorems.Packets.{sent_even, sent_reads, sent_refused}
use Rattle.link.specs.History.{Allowed, Handed, History, fields_sent, packet_sent, sending_of}
use Rattle.link.specs.Sending.{Client, Lawful, epoch_number}
use Rattle.link.specs.Proofs.Histories.Packets.{packet_epoch, packet_is, packet_wrote, sent_counts}
use Rattle.link.specs.Proofs.Histories.Payloads.{carried_length}
use Rattle.link.specs.Proofs.Histories.Sure.{sure}

module _ (h : History) (a : Allowed h) (i slot : ℕ) (b : slot < h.slots) where
  abbrev epoch : ℕ
  epoch = epoch_number h.kind h.first i

  reads : own_ruling h.kind epoch (packet_row h.kind (packet_sent h i slot)) ≡ ruling_by (Ok (fields_sent h i slot))
  reads =
      rw (packet_is h a i slot b)
      (sent_reads h.kind a.lcas (fields_sent h i slot) (replicate (frames h.kind) 0) (packet_wrote h a i slot b) epoch (packet_epoch h a i slot))

  module _ (came : List ℕ) (low : 1 ≤ changed h.kind (packet_sent h i slot) came) (high : changed h.kind (packet_sent h i slot) came ≤ most_changes h.kind) where
    refused : (own_ruling h.kind epoch (packet_row h.kind came)).good ≡ false
    refused =
        sent_refused h.kind a.lcas (fields_sent h i slot) (replicate (frames h.kind) 0) (packet_wrote h a i slot b) epoch came
        (rw (packet_is h a i slot b) at low) (rw (packet_is h a i slot b) at high)

    even : odd_packet h.kind epoch (packet_row h.kind came) ≡ false
    even =
        sent_even h.kind a.lcas (fields_sent h i slot) (replicate (frames h.kind) 0) (packet_wrote h a i slot b) epoch came
        (rw (packet_is h a i slot b) at low) (rw (packet_is h a i slot b) at high)

pub history_lawful : (h : History) → Allowed h → (P : ℕ) (client : Client) → Handed h P client
    → (unranked : ℕ → ℕ → List ℕ) → ((x slot : ℕ) → slot < h.slots → length (unranked x slot) ≡ P) → Lawful (sending_of h P client unranked) P client
history_lawful h a P client c unranked long =
    record {
      first = a.first;
      counts = λ i slot k b l. sent_counts h a i slot b k l;
      reads = λ i slot b. reads h a i slot b;
      refused = λ i slot came b low high. refused h a i slot b came low high;
      even = λ i slot came b low high. even h a i slot b came low high;
      rules = λ i n slot_of ports o covered seen. sure h a P client c unranked i n slot_of ports o covered seen;
      long = λ x slot b. carried_length h a P client c x unranked slot b (long x slot b);
    }
