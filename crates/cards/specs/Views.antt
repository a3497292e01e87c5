-- What one group sees of the card, and its calls with what each gives back: 'For any calls, what one group is answered and what its board shows depend on its own calls and on which slots the other holds, and on nothing else.' (02, 2026-06)
use Rattle.std.specs.Prelude.{◌≡◌, Bool, false, List, [], ◌∷◌, ℕ, ◌-◌, length, if◌then◌else◌, ◌==◌}
use Rattle.ground.specs.Table.{tabulate}
use Rattle.ground.specs.Types.{Bytes}
use Rattle.sender.specs.declared.epochs.Sender.{Sender}
use Rattle.cards.specs.Commands.{start_of}
use Rattle.cards.specs.Answers.{Answer, BoardOutcome, OwnedOutcome, RanksOutcome}
use Rattle.cards.specs.declared.card.Card.{Card}
use Rattle.cards.specs.Calls.{Call, outcome_of}
use Rattle.cards.specs.Calls.Call.{Claim, Release, AddSlot, RemoveSlot, Report, Lapse, StartEpoch}
use Rattle.cards.specs.Parts.{owns, sender_of}
use Rattle.cards.specs.Readings.{board_shown, outgoing_shown, owned_shown, packet_answer, packet_bytes, payload_answer, payload_bytes, ranks_shown}

-- the view of a group: its sender and which slots it owns
pub record View : Type 0 where
  pub sender : Sender
  pub owned : List Bool

unfoldable pub view_of : ℕ → Card → View
view_of g c = record { sender = sender_of c g; owned = tabulate 64 (λ i. owns c g i) }

-- every call: one that changes the card, or one that reads
pub data Asked : Type 0 where
  Do : Call → Asked
  Packet : (slot : ℕ) (h4 : Bytes) → Asked
  Payload : (slot P : ℕ) (frame member : Bytes) → Asked
  Board : Asked
  Outgoing : Asked
  Ranks : Asked
  Owned : Asked

-- all that it gives back
pub data Reply : Type 0 where
  Answered : Answer → Reply
  Wrote : Answer → Bytes → Reply
  Showed : BoardOutcome → Reply
  Ranked : RanksOutcome → Reply
  Owns : OwnedOutcome → Reply

abbrev pub reply_to : (c : Card) (group : ℕ) (asked : Asked) → Reply
reply_to c g (Do k) = Answered (outcome_of c g k).answer
reply_to c g (Packet i h4) = Wrote (packet_answer c g i h4) (packet_bytes c g i h4)
reply_to c g (Payload i p frame member) = Wrote (payload_answer c g i p (length frame) (length member)) (payload_bytes c g i p frame member)
reply_to c g Board = Showed (board_shown c g)
reply_to c g Outgoing = Showed (outgoing_shown c g)
reply_to c g Ranks = Ranked (ranks_shown c g)
reply_to c g Owned = Owns (owned_shown c g)

abbrev pub card_after : (c : Card) (group : ℕ) (asked : Asked) → Card
card_after c g (Do k) = (outcome_of c g k).card
card_after c g (Packet i h4) = c
card_after c g (Payload i p frame member) = c
card_after c g Board = c
card_after c g Outgoing = c
card_after c g Ranks = c
card_after c g Owned = c

-- the one bit through which the other's holdings show: on a claim, that the other owns the slot asked for
abbrev pub bit_of : (c : Card) (group : ℕ) (asked : Asked) → Bool
bit_of c g (Do (Claim i)) = owns c (1 - g) i
bit_of c g (Do (Release i)) = false
bit_of c g (Do (AddSlot i)) = false
bit_of c g (Do (RemoveSlot i)) = false
bit_of c g (Do (Report e mst ack)) = false
bit_of c g (Do Lapse) = false
bit_of c g (Do (StartEpoch gid mst ack)) = false
bit_of c g (Packet i h4) = false
bit_of c g (Payload i p frame member) = false
bit_of c g Board = false
bit_of c g Outgoing = false
bit_of c g Ranks = false
bit_of c g Owned = false

-- a call with the group that makes it
pub record Made : Type 0 where
  pub group : ℕ
  pub asked : Asked

abbrev pub run : Card → List Made → Card
run c [] = c
run c (m ∷ ms) = run (card_after c m.group m.asked) ms

-- of a list of calls: those of g, what it is given back, and its bits, in their order
abbrev pub asked_by : ℕ → List Made → List Asked
asked_by g [] = []
asked_by g (m ∷ ms) = if m.group == g then m.asked ∷ asked_by g ms else asked_by g ms

abbrev pub replies_to : (group : ℕ) (c : Card) (ms : List Made) → List Reply
replies_to g c [] = []
replies_to g c (m ∷ ms) =
    let rest = replies_to g (card_after c m.group m.asked) ms in if m.group == g then reply_to c g m.asked ∷ rest else rest

abbrev pub bits_of : (group : ℕ) (c : Card) (ms : List Made) → List Bool
bits_of g c [] = []
bits_of g c (m ∷ ms) =
    let rest = bits_of g (card_after c m.group m.asked) ms in if m.group == g then bit_of c g m.asked ∷ rest else rest

-- the card after any calls from a start
abbrev pub card_from : (kind count e₀ e₁ : ℕ) (ms : List Made) → Card
card_from kind count e₀ e₁ ms = run (start_of kind count e₀ e₁).card ms

-- two lists of calls on two cards give a group the same: all that it is given back, answers, boards now and going, ranks, packets and payload bytes, and the view left
pub record Same (g : ℕ) (c d : Card) (ms ns : List Made) : Type 0 where
  pub replies : replies_to g c ms ≡ replies_to g d ns
  pub view : view_of g (run c ms) ≡ view_of g (run d ns)
