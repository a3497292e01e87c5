-- Runs of a card's C calls, by the calls of the card's own that they are.
use Rattle.std.specs.Prelude.{Bool, true, List, [], ◌∷◌, ℕ, if◌then◌else◌}
use Rattle.ground.specs.Types.{Bytes}
use Rattle.cards.specs.Views.{Asked, Made}
use Rattle.cards.specs.Views.Asked.{Do, Packet, Payload, Board, Outgoing, Ranks, Owned}
use Rattle.c_cards.specs.CardCalls.{fitting}
use Rattle.c_cards.specs.Cards.{call_state_on}

-- what a C call asks of its numbers
abbrev pub numbers_fit : Asked → Bool
numbers_fit (Do k) = fitting k
numbers_fit (Packet i h4) = true
numbers_fit (Payload i p frame member) = true
numbers_fit Board = true
numbers_fit Outgoing = true
numbers_fit Ranks = true
numbers_fit Owned = true

-- a reading is lent the state and leaves it
abbrev pub state_after : (state : Bytes) (group : ℕ) (asked : Asked) → Bytes
state_after state g (Do k) = call_state_on (fitting k) g k state
state_after state g (Packet i h4) = state
state_after state g (Payload i p frame member) = state
state_after state g Board = state
state_after state g Outgoing = state
state_after state g Ranks = state
state_after state g Owned = state

abbrev pub state_after_all : (state : Bytes) (made : List Made) → Bytes
state_after_all state [] = state
state_after_all state (m ∷ ms) = state_after_all (state_after state m.group m.asked) ms

-- the calls among them that are not refused for a number that is no byte
abbrev pub meant : List Made → List Made
meant [] = []
meant (m ∷ ms) = if numbers_fit m.asked then m ∷ meant ms else meant ms
