-- The card and the answers after i turns of the loop, and that after all of them the result and the answers are what an order is to leave.
use mathlib.Core.Path.{◌≡◌}
use mathlib.Core.List.{List}
use Prim.Native.Nat.{ℕ, ◌+◌}
use lib.ListN.{length, get_or}
use Rattle.cards.specs.declared.card.Card.{Card}
use Rattle.orders.specs.declared.commands.Command.{Command}
use Rattle.orders.specs.Orders.{card_by, number_by, orders_of, outcome_by, stored_by}
use Rattle.orders.specs.Laws.Folding as F
use Rattle.orders.specs.Singles.{no_command}

abbrev pub card_at : Card → List Command → ℕ → Card
card_at = F.state_at card_by number_by no_command

abbrev pub list_at : Card → List Command → List ℕ → ℕ → List ℕ
list_at = F.list_at card_by number_by no_command

-- ---- one turn
pub list_length : (card : Card) (cs : List Command) (ys : List ℕ) (i : ℕ) → length (list_at card cs ys i) ≡ length ys
list_length = F.list_length card_by number_by no_command

pub card_next : (card : Card) (cs : List Command) (i : ℕ) → (outcome_by (card_at card cs i) (get_or cs i no_command)).card ≡ card_at card cs (i + 1)
card_next = F.state_next card_by number_by no_command

pub list_next : (card : Card) (cs : List Command) (ys : List ℕ) (i : ℕ) → stored_by (card_at card cs i) (get_or cs i no_command) i (list_at card cs ys i) ≡ list_at card cs ys (i + 1)
list_next = F.list_next card_by number_by no_command

-- ---- all of them
pub card_all : (card : Card) (cs : List Command) → card_at card cs (length cs) ≡ (orders_of card cs).state
card_all = F.state_all card_by number_by no_command

pub list_all : (card : Card) (cs : List Command) (ys : List ℕ) → length cs ≡ length ys → list_at card cs ys (length cs) ≡ (orders_of card cs).numbers
list_all = F.list_all card_by number_by no_command
