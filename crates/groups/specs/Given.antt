-- What a card gives a group for one of its slots, packet and payload, after the first n calls: what the group's link has as sent in the i-th epoch.
use Rattle.std.specs.Prelude.{◌≡◌, ◌≢◌, List, ℕ, length}
use Rattle.packet.specs.Kinds.{frames}
use Rattle.sender.specs.Epochs.{rank_in}
use Rattle.sender.specs.Ranks.{no_rank}
use Rattle.cards.specs.Answers.Answer.{Done}
use Rattle.cards.specs.Parts.{sender_of}
use Rattle.cards.specs.Readings.{packet_answer, packet_bytes, payload_answer, payload_bytes}
use Rattle.link.specs.Link.{Link}
use Rattle.link.specs.Sending.{epoch_at}
use Rattle.groups.specs.Cards.{CardHistory, card_at}

pub record Gives (h : CardHistory) (g : ℕ) (k : Link) (n i slot : ℕ) : Type 0 where
  -- into any lent bytes, as many as a packet has
  pub packet_done : (h4 : List ℕ) → length h4 ≡ frames h.kind → packet_answer (card_at h n) g slot h4 ≡ Done
  pub packet : (h4 : List ℕ) → length h4 ≡ frames h.kind → packet_bytes (card_at h n) g slot h4 ≡ k.sending.packet i slot
  -- and into any P bytes, of the client's group frame at each position of the epoch
  pub payload_done : (x : ℕ) (member : List ℕ) → epoch_at h.kind x ≡ i → length member ≡ k.payload
      → payload_answer (card_at h n) g slot k.payload (length (k.client x)) (length member) ≡ Done
  pub payload : (x : ℕ) (member : List ℕ) → epoch_at h.kind x ≡ i → length member ≡ k.payload → rank_in (sender_of (card_at h n) g) slot ≢ no_rank
      → payload_bytes (card_at h n) g slot k.payload (k.client x) member ≡ k.sending.payload x slot
