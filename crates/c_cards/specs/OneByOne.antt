-- 'State and answers equal those of calling one by one in that order' (02, 2026-07): the single C calls of a work order, and their numbers.
use Rattle.std.specs.Prelude.{true, List, [], ◌∷◌, ◌≢◌, ℕ, get_or, length, take, if◌then◌else◌}
use Rattle.ground.specs.Plain.{◌<?◌}
use Rattle.ground.specs.Table.{tabulate}
use Rattle.ground.specs.Types.{Bytes}
use Rattle.cards.specs.Views.{Made}
use Rattle.cards.specs.Views.Asked.{Do}
use Rattle.orders.specs.Orders.{call_by}
use Rattle.c_cards.specs.CardRuns.{state_after_all}
use Rattle.c_cards.specs.Cards.{call_answer_on}
use Rattle.c_cards.specs.Orders.{kind_of}

-- the single C calls that a host makes for these commands; it makes none for a number that is no kind
abbrev pub singles_in : (commands : List (List ℕ)) → List Made
singles_in [] = []
singles_in (c ∷ cs) =
    if 3 <? get_or c 0 0 then singles_in cs else record { group = get_or c 1 0; asked = Do (call_by (kind_of (get_or c 0 0)) (get_or c 2 0)) } ∷ singles_in cs

-- the number of each single call, on the bytes that those before it left; a host that knows no such kind says 8 by itself
abbrev pub number_on : (state : Bytes) (command : List ℕ) → ℕ
number_on s c = if 3 <? get_or c 0 0 then 8 else call_answer_on true (get_or c 1 0) (call_by (kind_of (get_or c 0 0)) (get_or c 2 0)) s

abbrev pub numbers_on : (state : Bytes) (commands : List (List ℕ)) → List ℕ
numbers_on s cs = tabulate (length cs) (λ i. number_on (state_after_all s (singles_in (take i cs))) (get_or cs i []))

-- no command is done
abbrev pub AllRefused : List ℕ → Type 0
AllRefused [] = Unit {0}
AllRefused (n ∷ ns) = (n ≢ 0) × AllRefused ns
