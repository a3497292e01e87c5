-- 'State and answers equal those of calling one by one in that order, refusals included. A list of no commands changes nothing.' (02, 2026-07) On any card, also on those that no call returned.
use Rattle.std.specs.Prelude.{◌≡◌, refl, ◌≢◌, List, [], ◌∷◌, ℕ, length}
use Rattle.std.proofs.Common.{ap, eq-eqb, ne_eqb}
use Rattle.cards.specs.Answers.{Answer as A}
use Rattle.cards.specs.declared.card.Card.{Card}
use Rattle.cards.specs.Views.{run}
use Rattle.orders.specs.declared.commands.Command.{Command}
use Rattle.orders.specs.Orders.{answers_of, ordered_of, orders_of, outcome_by}
use Rattle.orders.specs.Singles.{single_number, single_numbers, singles_of}

-- the card is that of the single calls
pub card_single : (card : Card) (cs : List Command) → (orders_of card cs).state ≡ run card (singles_of cs)
unfolding outcome_by
card_single card [] = refl
card_single card (c ∷ cs) = card_single (outcome_by card c).card cs

-- and so is each number
pub answers_single : (card : Card) (cs : List Command) → (orders_of card cs).numbers ≡ single_numbers card cs
unfolding outcome_by
answers_single card [] = refl
answers_single card (c ∷ cs) = ap (λ (ns : List ℕ). single_number card c ∷ ns) (answers_single (outcome_by card c).card cs)

-- as the call is promised
pub one_by_one : (card : Card) (cs : List Command) (ys : List ℕ) → length cs ≡ length ys
    → (ordered_of card cs (length ys) ≡ record { card = run card (singles_of cs); answer = A.Done }) × (answers_of card cs ys ≡ single_numbers card cs)
one_by_one card cs ys e = rw (eq-eqb (length cs) (length ys) e, card_single card cs, answers_single card cs) (refl, refl)

-- 'answers list of a different length than the commands is 9, and nothing is done'
pub nothing_done : (card : Card) (cs : List Command) (ys : List ℕ) → length cs ≢ length ys → (ordered_of card cs (length ys) ≡ record { card = card; answer = A.Length }) × (answers_of card cs ys ≡ ys)
nothing_done card cs ys n = rw (ne_eqb (length cs) (length ys) n) (refl, refl)

pub no_commands : (card : Card) → (ordered_of card [] 0 ≡ record { card = card; answer = A.Done }) × (answers_of card [] [] ≡ [])
no_commands card = (refl, refl)
