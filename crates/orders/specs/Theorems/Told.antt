-- The code tells of an order by a Result, and loses nothing: an order that is refused leaves the card that it was given.
use Rattle.std.specs.Prelude.{◌≡◌, refl, List, ℕ, take, length, ◌==◌}
use Rattle.std.proofs.Common.{ltb}
use Rattle.ground.specs.Truth.{cond_by}
use Rattle.cards.specs.declared.card.Card.{Card}
use Rattle.orders.specs.declared.commands.Command.{Command}
use Rattle.orders.specs.Orders.{Ordered, first_ordered, ordered_back, ordered_of}

pub nothing_lost : (card : Card) (cs : List Command) (k : ℕ) → ordered_back (ordered_of card cs k) card ≡ ordered_of card cs k
nothing_lost card cs k = cond_by (λ (r : Ordered). ordered_back r card ≡ r) (length cs == k) _ _ (λ t. refl) (λ f. refl)

pub nothing_lost_of : (card : Card) (cs : List Command) (n k : ℕ) → ordered_back (first_ordered card cs n k) card ≡ first_ordered card cs n k
nothing_lost_of card cs n k = cond_by (λ (r : Ordered). ordered_back r card ≡ r) (ltb 64 n) _ _ (λ t. refl) (λ f. nothing_lost card (take n cs) k)
