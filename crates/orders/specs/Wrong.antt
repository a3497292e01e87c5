-- Wrong readings of request 2026-07, each as a definition with an order on which it breaks what the request says.
use Rattle.std.specs.Prelude.{◌≡◌, refl, Bool, true, false, ◌&&◌, List, [], ◌∷◌, ◌++◌, ℕ, if◌then◌else◌, ◌==◌}
use Rattle.cards.specs.declared.card.Card.{Card}
use Rattle.cards.specs.Parts.{owns}
use Rattle.cards.specs.Shown.{after}
use Rattle.orders.specs.declared.commands.Command.{Command}
use Rattle.orders.specs.declared.commands.Kind as K
use Rattle.orders.specs.Folding.{Folded}
use Rattle.orders.specs.Orders.{number_by, orders_of, outcome_by}
use Rattle.orders.specs.Shown.{add, claim, release, remove}
use Rattle.orders.specs.Opened.{orders_open}

-- two slots, nobody's
abbrev fresh : Card
fresh = after 2 []

-- Stops at the first refusal, and answers 255 from there on. 'refusals included': what comes after a refusal is done.
wrong_stops : Card → List Command → List ℕ
wrong_stops card [] = []
wrong_stops card (c ∷ cs) = number_by card c ∷ (if number_by card c == 0 then wrong_stops (outcome_by card c).card cs else untried cs)
  where
    untried : List Command → List ℕ
    untried [] = []
    untried (d ∷ ds) = 255 ∷ untried ds

stops_breaks :
    (wrong_stops fresh (add 0 0 ∷ claim 0 0 ∷ add 0 0 ∷ []) ≡ 14 ∷ 255 ∷ 255 ∷ [])
    × ((orders_of fresh (add 0 0 ∷ claim 0 0 ∷ add 0 0 ∷ [])).numbers ≡ 14 ∷ 0 ∷ 0 ∷ [])
unfolding orders_open wrong_stops
stops_breaks = (refl, refl)

-- Judges each command on the card as it was given. 'calling one by one in that order': an add sees the claim before it.
wrong_judges : Card → List Command → List ℕ
wrong_judges card [] = []
wrong_judges card (c ∷ cs) = number_by card c ∷ wrong_judges card cs

judges_breaks :
    (wrong_judges fresh (claim 0 0 ∷ add 0 0 ∷ claim 1 0 ∷ []) ≡ 0 ∷ 14 ∷ 0 ∷ [])
    × ((orders_of fresh (claim 0 0 ∷ add 0 0 ∷ claim 1 0 ∷ [])).numbers ≡ 0 ∷ 0 ∷ 14 ∷ [])
unfolding orders_open wrong_judges
judges_breaks = (refl, refl)

-- All or nothing: with one refusal the card stays as it was given. One claim is refused here, and the other slot is owned all the same.
all_done : List ℕ → Bool
all_done [] = true
all_done (n ∷ ns) = n == 0 && all_done ns

wrong_whole : Card → List Command → Card
wrong_whole card cs = if all_done (orders_of card cs).numbers then (orders_of card cs).state else card

whole_breaks :
    (owns (wrong_whole fresh (claim 0 0 ∷ claim 0 0 ∷ [])) 0 0 ≡ false)
    × (owns (orders_of fresh (claim 0 0 ∷ claim 0 0 ∷ [])).state 0 0 ≡ true)
unfolding orders_open wrong_whole all_done
whole_breaks = (refl, refl)

-- Takes the commands by kind, claims first and removes last, as if to help. 'in that order': here the add comes before its claim, and is refused.
of_kind : (K.Kind → Bool) → List Command → List Command
of_kind is [] = []
of_kind is (c ∷ cs) = if is c.kind then c ∷ of_kind is cs else of_kind is cs

is_claim : K.Kind → Bool
is_claim K.Kind.Claim = true
is_claim K.Kind.Add = false
is_claim K.Kind.Remove = false
is_claim K.Kind.Release = false

is_add_lem : K.Kind → Bool
is_add_lem K.Kind.Claim = false
is_add_lem K.Kind.Add = true
is_add_lem K.Kind.Remove = false
is_add_lem K.Kind.Release = false

is_remove : K.Kind → Bool
is_remove K.Kind.Claim = false
is_remove K.Kind.Add = false
is_remove K.Kind.Remove = true
is_remove K.Kind.Release = false

is_release : K.Kind → Bool
is_release K.Kind.Claim = false
is_release K.Kind.Add = false
is_release K.Kind.Remove = false
is_release K.Kind.Release = true

wrong_groups : Card → List Command → Folded Card
wrong_groups card cs = orders_of card (of_kind is_claim cs ++ (of_kind is_add_lem cs ++ (of_kind is_release cs ++ of_kind is_remove cs)))

groups_breaks :
    ((wrong_groups fresh (add 0 0 ∷ claim 0 0 ∷ [])).numbers ≡ 0 ∷ 0 ∷ [])
    × ((orders_of fresh (add 0 0 ∷ claim 0 0 ∷ [])).numbers ≡ 14 ∷ 0 ∷ [])
unfolding orders_open wrong_groups of_kind is_claim is_add_lem is_remove is_release
groups_breaks = (refl, refl)

-- Beside them the trap, which is no wrong reading: a remove opens the group's wait, and what follows of that group is answered 3. Nothing is sorted or put off for it.
trap : (orders_of (after 2 []) (claim 0 0 ∷ claim 0 1 ∷ add 0 0 ∷ remove 0 0 ∷ add 0 1 ∷ remove 0 0 ∷ release 0 0 ∷ [])).numbers ≡ 0 ∷ 0 ∷ 0 ∷ 0 ∷ 3 ∷ 3 ∷ 0 ∷ []
unfolding orders_open
trap = refl
