-- Demand 3 per group (02, 2026-06), proved.
use Rattle.std.specs.Prelude.{◌≡◌, false, ℕ, suc, ◌≤◌, ◌<◌}
use Rattle.cards.specs.Parts.{owns, sender_of}
use Rattle.link.specs.Demand3.{Demand3}
use Rattle.link.specs.History.{sender_at}
use Rattle.link.specs.Link.{Link}
use Rattle.groups.specs.Assumed.{AssumedEach}
use Rattle.groups.specs.Cards.{CardHistory, card_at}
use Rattle.groups.specs.Given.{Gives}
use Rattle.groups.specs.Projected.{Starts, history_of, is_move}
use Rattle.groups.specs.Proofs.Each.{each}
use Rattle.groups.specs.Proofs.Giving.{gives}
use Rattle.groups.specs.Proofs.Senders.{sender_is}
use Rattle.groups.specs.Proofs.Staying.{stays}

-- for either group, whatever calls the other makes
pub demand3_each : (h : CardHistory) (g : ℕ) (k : Link) → AssumedEach h g k → Demand3 k
demand3_each h g k a = each h g k a

-- What is sent is what the card gives: at every moment of an epoch at which the group's slots are those of its ports.
pub given_each : (h : CardHistory) (g : ℕ) (k : Link) (a : AssumedEach h g k) (n i p : ℕ) → a.calls_then ≤ n → a.starts.at i < n → n ≤ a.starts.at (suc i) → p < k.ports
    → Gives h g k n i (k.pairing p)
given_each h g k a n i p from later in-it below = gives h g k a n i p from later in-it below

-- The group's own history is the card's: after the start of each epoch its sender is the one of that history.
pub projected : (h : CardHistory) (g : ℕ) → g < 2 → (s : Starts h g) (i : ℕ) → sender_of (card_at h (suc (s.at i))) g ≡ sender_at (history_of h g s) i
projected h g hg s i = sender_is h g hg s i

-- A group's slots stay where it makes no claim and no release itself, whatever the other does.
pub stays_still : (h : CardHistory) (g : ℕ) → g < 2 → (from : ℕ) → ((n : ℕ) → from ≤ n → is_move g (h.made n) ≡ false)
    → (n slot : ℕ) → from ≤ n → slot < 64 → owns (card_at h n) g slot ≡ owns (card_at h from) g slot
stays_still h g hg from none n slot le low = stays h g hg from none n slot le low
