-- What demand 3 lets be so of one group of a card, and of its own link: 'demand 3 per group with its own ports, one for each slot it owns, as long as no claim or release changes the group's slots from the sending of the earliest frame that its receiver gets' (02, 2026-06).
use Rattle.std.specs.Prelude.{◌≡◌, true, false, List, ℕ, ◌≤◌, ◌<◌, length, ◌==◌}
use Rattle.packet.specs.Kinds.{epochs, fixed_kind}
use Rattle.cards.specs.Parts.{owns}
use Rattle.link.specs.History.{sending_of}
use Rattle.link.specs.Link.{Lines, Link}
use Rattle.link.specs.Sending.{Pairing, Reached, epoch_start}
use Rattle.groups.specs.Cards.{CardHistory, card_at}
use Rattle.groups.specs.Projected.{Starts, history_of}

pub record AssumedEach (h : CardHistory) (g : ℕ) (k : Link) : Type 0 where
  -- one of the two groups, of a card whose start was answered 0; a fixed group (request 2026-12) is none of our sender's
  pub group : g < 2
  pub lcas : (h.kind == fixed_kind) ≡ false
  pub some : 1 ≤ h.slots
  pub most : h.slots ≤ 64
  pub first : h.first g < epochs h.kind
  -- its epochs go on; which calls come between, of either group, is free
  pub starts : Starts h g
  -- what slots with no rank carry: any P bytes
  pub unranked : ℕ → ℕ → List ℕ
  pub unranked_long : (x slot : ℕ) → slot < h.slots → length (unranked x slot) ≡ k.payload
  -- what its slots send is its own history's
  pub sends : k.sending ≡ sending_of (history_of h g starts) k.payload k.client unranked
  -- the client, the lines, what is lent
  pub lines : Lines k
  -- a position that no port's first frame is before, and how many calls had been made when its frame was sent: the epochs that start after it are started by later calls
  pub earliest : ℕ
  pub calls_then : ℕ
  pub not_before : (p : ℕ) → p < k.ports → earliest ≤ k.first p
  pub started_later : (i : ℕ) → earliest < epoch_start h.kind i → calls_then ≤ starts.at i
  -- from then on the group's slots stay
  pub stay : (n slot : ℕ) → calls_then ≤ n → slot < h.slots → owns (card_at h n) g slot ≡ owns (card_at h calls_then) g slot
  -- and each has a port of its own, and no other slot has one
  pub paired : Pairing k.ports h.slots k.pairing
  pub own : (p : ℕ) → p < k.ports → owns (card_at h calls_then) g (k.pairing p) ≡ true
  pub each : (slot : ℕ) → slot < h.slots → owns (card_at h calls_then) g slot ≡ true → Reached k.ports k.pairing slot
