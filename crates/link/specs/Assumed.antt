-- What demand 3 lets be so (the minutes, item 3), of our sender's histories: a field a sentence.
use Rattle.std.specs.Prelude.{◌≡◌, List, ℕ, ◌<◌, length}
use Rattle.link.specs.History.{Allowed, History, sending_of}
use Rattle.link.specs.Link.{Lines, Link}
use Rattle.link.specs.Sending.{Pairing}

pub record Assumed (k : Link) : Type 0 where
  -- 'any history of members our sender allows from one start'
  pub history : History
  pub allowed : Allowed history
  -- what slots with no rank carry: any P bytes
  pub unranked : ℕ → ℕ → List ℕ
  pub unranked_long : (x slot : ℕ) → slot < history.slots → length (unranked x slot) ≡ k.payload
  pub sends : k.sending ≡ sending_of history k.payload k.client unranked
  -- 'each slot reach one port and each port one slot': there are as many
  pub all : k.ports ≡ history.slots
  pub paired : Pairing history.slots history.slots k.pairing
  -- the rest: the client, the lines, what is lent
  pub lines : Lines k
