-- `apart` used at a corner: each side is worked out by itself, so that a statement that lost a part would be seen.
use Rattle.std.specs.Prelude.{◌≡◌, refl, List, [], ◌∷◌, ℕ}
use Rattle.std.proofs.Common.{ap, arith}
use Rattle.sender.specs.Shown.{shown}
use Rattle.cards.specs.Answers.Answer.{Done, Owned}
use Rattle.cards.specs.declared.card.Card.{Card}
use Rattle.cards.specs.Calls.Call.{AddSlot, Claim, RemoveSlot}
use Rattle.cards.specs.Opened.{circuits_open}
use Rattle.cards.specs.Shown.{after, by}
use Rattle.cards.specs.Theorems.Apart.{apart}
use Rattle.cards.specs.Views.{Made, Reply, Same, View}
use Rattle.cards.specs.Views.Reply.{Answered}

-- group 1 has slot 1 on the one card, and nothing on the other
abbrev one : Card
one = after 2 (by 1 (Claim 1) ∷ [])

abbrev other : Card
other = after 2 []

-- Group 0 makes the same calls on both. Group 1 goes on with its slot on the one, and takes one on the other, in other places of the list.
abbrev ms : List Made
ms = by 1 (AddSlot 1) ∷ by 0 (Claim 0) ∷ by 0 (AddSlot 0) ∷ by 1 (RemoveSlot 1) ∷ by 0 (AddSlot 1) ∷ []

abbrev ns : List Made
ns = by 0 (Claim 0) ∷ by 1 (Claim 1) ∷ by 0 (AddSlot 0) ∷ by 0 (AddSlot 1) ∷ []

used : Same 0 one other ms ns
unfolding circuits_open
used = apart 0 (omega arith) one other ms ns refl refl refl

-- slot 1 is not group 0's: 14
replies_used : ◌≡◌ {A = List Reply} (Answered Done ∷ Answered Done ∷ Answered Owned ∷ []) (Answered Done ∷ Answered Done ∷ Answered Owned ∷ [])
unfolding circuits_open
replies_used = used.replies

-- slot 0 is ADD with number 0, slot 1 IDLE, and no wait is open
view_used : ◌≡◌ {A = List ℕ} (1 ∷ 0 ∷ 5 ∷ 255 ∷ 0 ∷ []) (1 ∷ 0 ∷ 5 ∷ 255 ∷ 0 ∷ [])
unfolding circuits_open
view_used = ap (λ (v : View). shown v.sender.table) used.view
