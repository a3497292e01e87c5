-- An order cut in two: the first part, then the second on the card that it left, with the answers one behind the other. So a long order may be given in chunks.
use Rattle.std.specs.Prelude.{◌≡◌, refl, List, ◌++◌, ℕ, ◌+◌, length}
use Rattle.std.proofs.Common.{ap, sym, ◌∙◌, length-append, eq-eqb}
use Rattle.cards.specs.declared.card.Card.{Card}
use Rattle.orders.specs.declared.commands.Command.{Command}
use Rattle.orders.specs.Laws.Folding.{cut_numbers, cut_state}
use Rattle.orders.specs.Orders.{answers_of, card_by, number_by, ordered_of, orders_of}

pub cut_card : (card : Card) (cs ds : List Command) → (orders_of card (cs ++ ds)).state ≡ (orders_of (orders_of card cs).state ds).state
cut_card = cut_state card_by number_by

pub cut_answers : (card : Card) (cs ds : List Command) → (orders_of card (cs ++ ds)).numbers ≡ (orders_of card cs).numbers ++ (orders_of (orders_of card cs).state ds).numbers
cut_answers = cut_numbers card_by number_by

-- as two calls, each with as many answers as commands
pub cut : (card : Card) (cs ds : List Command) (ys zs : List ℕ) → length cs ≡ length ys → length ds ≡ length zs
    → (ordered_of card (cs ++ ds) (length (ys ++ zs)) ≡ ordered_of (ordered_of card cs (length ys)).card ds (length zs))
    × (answers_of card (cs ++ ds) (ys ++ zs) ≡ answers_of card cs ys ++ answers_of (ordered_of card cs (length ys)).card ds zs)
cut card cs ds ys zs e f =
    let both : length (cs ++ ds) ≡ length (ys ++ zs) = length-append cs ds ∙ ap (λ (n : ℕ). n + length ds) e ∙ ap (λ (n : ℕ). length ys + n) f ∙ sym (length-append ys zs) in
    rw (eq-eqb (length (cs ++ ds)) (length (ys ++ zs)) both, eq-eqb (length cs) (length ys) e, eq-eqb (length ds) (length zs) f, cut_card card cs ds, cut_answers card cs ds) (refl, refl)
