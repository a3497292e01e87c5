-- Commands as they are typed, and what an order gives back, for examples.
use Rattle.std.specs.Prelude.{List, ◌∷◌, ℕ, length}
use Rattle.cards.specs.declared.card.Card.{Card}
use Rattle.cards.specs.Answers.{answer_number}
use Rattle.orders.specs.declared.commands.Command.{Command}
use Rattle.orders.specs.declared.commands.Kind as K
use Rattle.orders.specs.Orders.{answers_of, ordered_of}

abbrev pub add : ℕ → ℕ → Command
add g i = record { kind = K.Kind.Add; group = g; slot = i }

abbrev pub remove : ℕ → ℕ → Command
remove g i = record { kind = K.Kind.Remove; group = g; slot = i }

abbrev pub claim : ℕ → ℕ → Command
claim g i = record { kind = K.Kind.Claim; group = g; slot = i }

abbrev pub release : ℕ → ℕ → Command
release g i = record { kind = K.Kind.Release; group = g; slot = i }

-- the number of an order, then its list of answers as it is left
abbrev pub numbers_of : (card : Card) (cs : List Command) (ys : List ℕ) → List ℕ
numbers_of card cs ys = answer_number (ordered_of card cs (length ys)).answer ∷ answers_of card cs ys

-- the card that it leaves
abbrev pub card_left : (card : Card) (cs : List Command) (ys : List ℕ) → Card
card_left card cs ys = (ordered_of card cs (length ys)).card
