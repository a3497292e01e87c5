-- Lists of a card's C calls: what one group gets back, its calls among them and its bits. And `card_apart` at a corner: two hosts that are alike to group 0.
use Rattle.std.specs.Prelude.{refl, true, false, List, [], ◌∷◌, ℕ, replicate}
use Rattle.std.proofs.Common.{arith}
use Rattle.c_cards.specs.CardCalls.{CardCall, Made, Same, answered, back_to, bits_of, calls_of, singles}
use Rattle.c_cards.specs.CardCalls.CardCall.{Do, Owned, NoKind}
use Rattle.c_cards.specs.CardCalls.Made.{One, Order}
use Rattle.c_cards.specs.Theorems.CardApart.{card_apart}
use Rattle.cards.specs.Calls.Call.{Claim, Lapse, Release, Report}
use Rattle.pinned.specs.Filled.{nines}
use Rattle.pinned.specs.Opened.{all_open}
use Rattle.tables.specs.Rows.{Pinned, pins, row, same}

abbrev by : ℕ → CardCall → Made
by g k = One (record { group = g; call = k })

-- nine slots for each group, slot 0 owned by group 0 and slot 1 by group 1, and any bytes else
abbrev state : List ℕ
state = 1 ∷ 2 ∷ nines 856

-- group 0 claims slot 1, reports a number that is no byte and reads what it owns; before that group 1 releases the slot
abbrev released : List Made
released = by 1 (Do (Release 1)) ∷ by 0 (Do (Claim 1)) ∷ by 0 (Do (Report 256 0 0)) ∷ by 0 (Owned (nines 64)) ∷ []

-- the same in an order, with a row that is no command behind it, and no release before it
abbrev held : List Made
held = by 1 (Do Lapse) ∷ Order ((2 ∷ 0 ∷ 1 ∷ []) ∷ (3 ∷ 1 ∷ 5 ∷ []) ∷ (4 ∷ 0 ∷ 1 ∷ []) ∷ []) (nines 3) ∷ by 0 (Owned (nines 64)) ∷ []

back : Pinned
unfolding all_open
back =
    pins "A group gets back what its own calls give, in an order or one by one, and of the other group only the bit on its claims (request 2026-06)."
    (row "group 0, where group 1 has released slot 1" (back_to 0 state released) (answered 0 ∷ answered 8 ∷ record { number = 0; lent = (1 ∷ 1 ∷ replicate 62 0) ∷ [] } ∷ []) same
    ∷ row "group 0, where group 1 has released slot 1, its bits then" (bits_of 0 state (singles released)) (false ∷ false ∷ false ∷ []) same
    ∷ row "group 0's calls in an order, a row that is no command among them" (calls_of 0 (singles held)) (Do (Claim 1) ∷ NoKind ∷ Owned (nines 64) ∷ []) same
    ∷ row "group 0, where group 1 holds the slot" (back_to 0 state held) (answered 14 ∷ answered 8 ∷ record { number = 0; lent = (1 ∷ replicate 63 0) ∷ [] } ∷ []) same
    ∷ row "where group 1 holds it, group 0's bits" (bits_of 0 state (singles held)) (true ∷ false ∷ false ∷ []) same
    ∷ row "what group 1 gets" (back_to 1 state held) (answered 0 ∷ answered 14 ∷ []) same
    ∷ row "an order whose answers' length differs does nothing" (back_to 0 state (Order ((2 ∷ 0 ∷ 1 ∷ []) ∷ []) (nines 2) ∷ [])) [] same
    ∷ [])

-- another card, with the same part and slots of group 0, on which the other group has other bytes and owns slot 2 too
abbrev other : List ℕ
other = 1 ∷ 2 ∷ 2 ∷ nines 855

-- a host that makes group 0's calls otherwise: the claim in an order with one of the other's
abbrev ordered : List Made
ordered =
    by 1 (Do (Claim 5)) ∷ by 1 (Do (Release 1)) ∷ Order ((2 ∷ 0 ∷ 1 ∷ []) ∷ (2 ∷ 1 ∷ 1 ∷ []) ∷ []) (nines 2) ∷ by 0 (Do (Report 256 0 0)) ∷ by 1 (Owned (nines 9)) ∷ by 0 (Owned (nines 64)) ∷ []

alike : Same 0 state other released ordered
unfolding all_open
alike = card_apart 0 (omega arith) state other refl refl refl refl released ordered refl refl
