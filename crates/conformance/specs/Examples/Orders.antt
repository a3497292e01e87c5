-- Examples of request 2026-07, a whole work order at once, worked out apart: the number of the order, then the answers as they are left, then what the group's board shows.
use Rattle.std.specs.Prelude.{◌≡◌, refl, List, [], ◌∷◌, ◌++◌, ℕ}
use Rattle.c_cards.specs.Orders.{kind_of}
use Rattle.cards.specs.declared.card.Card.{Card}
use Rattle.cards.specs.Calls.Call.{AddSlot, Claim}
use Rattle.cards.specs.Shown.{after, board, by}
use Rattle.tables.specs.Rows.{Equal, Row, equal_rows, row, same}
use Rattle.orders.specs.declared.commands.Command.{Command}
use Rattle.orders.specs.declared.commands.Kind as K
use Rattle.orders.specs.Orders.{first_answers}
use Rattle.orders.specs.Shown.{add, card_left, claim, numbers_of, remove}
use Rattle.conformance.specs.Opened.{all_open}

-- two slots; group 0 has slot 0, which is being added
abbrev adding : Card
adding = after 2 (by 0 (Claim 0) ∷ by 0 (AddSlot 0) ∷ [])

-- the slot is removed and not released, and slot 1 is nobody's
abbrev six : List Command
six = claim 0 0 ∷ add 0 0 ∷ add 0 0 ∷ remove 0 0 ∷ add 0 1 ∷ claim 1 0 ∷ []

abbrev unwritten : List ℕ
unwritten = 255 ∷ 255 ∷ 255 ∷ 255 ∷ 255 ∷ 255 ∷ []

pub table : List Row
unfolding all_open
table =
    row "the empty order" (numbers_of adding [] [] ++ board 0 (card_left adding [] [])) (0 ∷ 1 ∷ 0 ∷ 5 ∷ 255 ∷ 0 ∷ []) same
    ∷ row "claim 0 0, add 0 0, add 0 0, remove 0 0, add 0 1, claim 1 0" (numbers_of (after 2 []) six unwritten ++ board 0 (card_left (after 2 []) six unwritten)) (0 ∷ 0 ∷ 0 ∷ 2 ∷ 0 ∷ 14 ∷ 14 ∷ 5 ∷ 255 ∷ 5 ∷ 255 ∷ 1 ∷ []) same
    ∷ row "the same with claim 0 1 done before" (numbers_of (after 2 (by 0 (Claim 1) ∷ [])) six unwritten) (0 ∷ 0 ∷ 0 ∷ 2 ∷ 0 ∷ 3 ∷ 14 ∷ []) same
    ∷ row "the first two of six" (first_answers (after 2 []) six 2 (255 ∷ 255 ∷ [])) (0 ∷ 0 ∷ []) same
    ∷ row "three commands and two answers" (let three = remove 0 0 ∷ claim 0 1 ∷ add 0 1 ∷ [] in numbers_of adding three (7 ∷ 8 ∷ []) ++ board 0 (card_left adding three (7 ∷ 8 ∷ []))) (9 ∷ 7 ∷ 8 ∷ 1 ∷ 0 ∷ 5 ∷ 255 ∷ 0 ∷ []) same
    ∷ row "two commands and three answers" (numbers_of adding (remove 0 0 ∷ claim 0 1 ∷ []) (7 ∷ 8 ∷ 6 ∷ []) ++ board 0 (card_left adding (remove 0 0 ∷ claim 0 1 ∷ []) (7 ∷ 8 ∷ 6 ∷ []))) (9 ∷ 7 ∷ 8 ∷ 6 ∷ 1 ∷ 0 ∷ 5 ∷ 255 ∷ 0 ∷ []) same
    ∷ []

pub examples : Equal table
examples = equal_rows table

-- a command's kind in C, by the numbers of the header
pub kinds_in_c : (kind_of 0 ≡ K.Kind.Add) × (kind_of 1 ≡ K.Kind.Remove) × (kind_of 2 ≡ K.Kind.Claim) × (kind_of 3 ≡ K.Kind.Release)
kinds_in_c = (refl, refl, refl, refl)
