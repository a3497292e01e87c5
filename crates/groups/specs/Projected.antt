-- What of a card's history is one group's: the starts of its epochs, and between them the calls that reach its sender's table. That is a history of our sender's.
use Rattle.std.specs.Prelude.{◌≡◌, Bool, true, false, ◌&&◌, List, [], ◌∷◌, ◌++◌, ℕ, zero, suc, ◌+◌, ◌-◌, ◌<◌, if◌then◌else◌, ◌==◌}
use Rattle.ground.specs.Plain.{◌<?◌}
use Rattle.ground.specs.Table.{tabulate}
use Rattle.sender.specs.Calls.{Call as T}
use Rattle.cards.specs.declared.card.Card.{Card}
use Rattle.cards.specs.Calls.Call.{Claim, Release, AddSlot, RemoveSlot, Report, Lapse, StartEpoch}
use Rattle.cards.specs.Parts.{is_slot, owns}
use Rattle.cards.specs.Views.{Asked, Made, card_after}
use Rattle.cards.specs.Views.Asked.{Do, Packet, Payload, Board, Outgoing, Ranks, Owned}
use Rattle.link.specs.History.{History}
use Rattle.groups.specs.Cards.{CardHistory, card_at}

-- a start of an epoch that is not refused with 8
abbrev pub begins : Asked → Bool
begins (Do (Claim i)) = false
begins (Do (Release i)) = false
begins (Do (AddSlot i)) = false
begins (Do (RemoveSlot i)) = false
begins (Do (Report e mst ack)) = false
begins (Do Lapse) = false
begins (Do (StartEpoch gid mst ack)) = gid <? 2 && ack <? 2
begins (Packet i h4) = false
begins (Payload i p frame member) = false
begins Board = false
begins Outgoing = false
begins Ranks = false
begins Owned = false

-- the call starts an epoch of g
abbrev pub is_start : ℕ → Made → Bool
is_start g m = m.group == g && begins m.asked

-- a claim or a release, whatever it is answered
abbrev pub claims_or_releases : Asked → Bool
claims_or_releases (Do (Claim i)) = true
claims_or_releases (Do (Release i)) = true
claims_or_releases (Do (AddSlot i)) = false
claims_or_releases (Do (RemoveSlot i)) = false
claims_or_releases (Do (Report e mst ack)) = false
claims_or_releases (Do Lapse) = false
claims_or_releases (Do (StartEpoch gid mst ack)) = false
claims_or_releases (Packet i h4) = false
claims_or_releases (Payload i p frame member) = false
claims_or_releases Board = false
claims_or_releases Outgoing = false
claims_or_releases Ranks = false
claims_or_releases Owned = false

-- the call is one of g
abbrev pub is_move : ℕ → Made → Bool
is_move g m = m.group == g && claims_or_releases m.asked

-- the calls that start the epochs of g, one after the other without end, and what is lent to each
pub record Starts (h : CardHistory) (g : ℕ) : Type 0 where
  pub at : ℕ → ℕ
  pub gid : ℕ → ℕ
  pub mst : ℕ → ℕ
  pub ack : ℕ → ℕ
  pub is : (i : ℕ) → h.made (at i) ≡ record { group = g; asked = Do (StartEpoch (gid i) (mst i) (ack i)) }
  -- the numbers lent are a bit's or a byte's
  pub gid_bit : (i : ℕ) → gid i < 2
  pub mst_byte : (i : ℕ) → mst i < 256
  pub ack_bit : (i : ℕ) → ack i < 2
  -- no other call starts one
  pub rising : (i : ℕ) → at i < at (suc i)
  pub none_before : (n : ℕ) → n < at 0 → is_start g (h.made n) ≡ false
  pub none_between : (i n : ℕ) → at i < n → n < at (suc i) → is_start g (h.made n) ≡ false

-- a command that is not answered 1 or 14
abbrev pub on_own : (c : Card) (group slot : ℕ) (t : T) → List T
on_own c g i t = if is_slot c g i && owns c g i then t ∷ [] else []

-- what a call of g hands to its sender's table
abbrev pub table_call : (c : Card) (group : ℕ) (asked : Asked) → List T
table_call c g (Do (Claim i)) = []
table_call c g (Do (Release i)) = []
table_call c g (Do (AddSlot i)) = on_own c g i (T.AddSlot i)
table_call c g (Do (RemoveSlot i)) = on_own c g i (T.RemoveSlot i)
table_call c g (Do (Report e mst ack)) = T.Report e mst ack ∷ []
table_call c g (Do Lapse) = T.Lapse ∷ []
table_call c g (Do (StartEpoch gid mst ack)) = []
table_call c g (Packet i h4) = []
table_call c g (Payload i p frame member) = []
table_call c g Board = []
table_call c g Outgoing = []
table_call c g Ranks = []
table_call c g Owned = []

-- any call, of g or not
abbrev pub reaching : (group : ℕ) (c : Card) (m : Made) → List T
reaching g c m = if m.group == g then table_call c g m.asked else []

-- a list of calls on a card
abbrev pub table_calls : (group : ℕ) (c : Card) (ms : List Made) → List T
table_calls g c [] = []
table_calls g c (m ∷ ms) = reaching g c m ++ table_calls g (card_after c m.group m.asked) ms

-- the calls from the m-th to before the n-th
abbrev pub made_from : (h : CardHistory) (m n : ℕ) → List Made
made_from h m n = tabulate (n - m) (λ j. h.made (m + j))

abbrev pub between : (h : CardHistory) (group m n : ℕ) → List T
between h g m n = table_calls g (card_at h m) (made_from h m n)

-- before the start of g's i-th epoch, since that of the one before
abbrev pub before_start : (h : CardHistory) (g : ℕ) → Starts h g → ℕ → List T
before_start h g s zero = between h g zero (s.at zero)
before_start h g s (suc i) = between h g (suc (s.at i)) (s.at (suc i))

abbrev pub history_of : (h : CardHistory) (g : ℕ) → Starts h g → History
history_of h g s =
    record {
      kind = h.kind;
      slots = h.slots;
      first = h.first g;
      before = before_start h g s;
      gid = s.gid;
      mst = s.mst;
      ack = s.ack;
    }
