-- Every packet of a history carries the number of its epoch, and the MST and RS-Ack that were lent to its start.
use Rattle.std.specs.Prelude.{◌≡◌, List, ℕ, ◌<◌, replicate, Ok}
use Rattle.std.proofs.Common.{sym, ap, subst, ◌∙◌}
use Rattle.packet.specs.Theorems.Sent.{sent_as}
use Rattle.packet.specs.Kinds.{frames}
use Rattle.packet.specs.Symbols.{packet_row}
use Rattle.receiver.specs.declared.seeing.Carried.{Carried}
use Rattle.receiver.specs.Seen.{carried_by}
use Rattle.sender.specs.Epochs.{packet_fields}
use Rattle.step.specs.Carried.{reading_in}
use Rattle.link.specs.Assumed.{Assumed}
use Rattle.link.specs.Heard.{SaysBack, carried_in}
use Rattle.link.specs.History.{Allowed, History, fields_sent, packet_sent, sending_of}
use Rattle.link.specs.Link.{Link}
use Rattle.link.specs.Proofs.Histories.Packets.{packet_epoch, packet_is, packet_wrote}
use Rattle.link.specs.Proofs.Histories.Senders.{sender_in}
use Rattle.link.specs.Sending.{Client, Sending}

module _ (h : History) (a : Allowed h) (i slot : ℕ) (b : slot < h.slots) where
  reads : reading_in h.kind (packet_row h.kind (packet_sent h i slot)) ≡ Ok (fields_sent h i slot)
  unfolding reading_in
  reads = rw (a.lcas, packet_is h a i slot b) (sent_as h.kind (fields_sent h i slot) (replicate (frames h.kind) 0) (packet_wrote h a i slot b)).reads

  pub packet_carries : carried_in h.kind (packet_sent h i slot) ≡ carried_by (Ok (fields_sent h i slot))
  packet_carries = ap carried_by reads

  packet_mst : (fields_sent h i slot).mst ≡ h.mst i
  unfolding packet_fields
  packet_mst = (sender_in h a i).mst

  packet_ack : (fields_sent h i slot).rs_ack ≡ h.ack i
  unfolding packet_fields
  packet_ack = (sender_in h a i).ack

pub history_says : (h : History) → Allowed h → (P : ℕ) (client : Client) (unranked : ℕ → ℕ → List ℕ) → SaysBack (sending_of h P client unranked) h.mst h.ack
history_says h a P client unranked =
    record {
      numbered = λ i slot b. ap (λ (c : Carried). c.epoch) (packet_carries h a i slot b) ∙ packet_epoch h a i slot;
      states = λ i slot b. ap (λ (c : Carried). c.mst) (packet_carries h a i slot b) ∙ packet_mst h a i slot b;
      turns = λ i slot b. ap (λ (c : Carried). c.rs_ack) (packet_carries h a i slot b) ∙ packet_ack h a i slot b;
    }

pub ours_say : (k : Link) (a : Assumed k) → SaysBack k.sending a.history.mst a.history.ack
ours_say k a =
    subst (λ (s : Sending). SaysBack s a.history.mst a.history.ack) (sym a.sends) (history_says a.history a.allowed k.payload k.client a.unranked)
