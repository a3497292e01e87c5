-- Wrong readings of request 2026-06, each as a definition with a run on which it breaks what the request says.
use Rattle.std.specs.Prelude.{◌≡◌, refl, List, [], ◌∷◌, ℕ, ◌+◌, ◌<◌, set, if◌then◌else◌}
use Rattle.std.proofs.Common.{arith}
use Rattle.sender.specs.declared.table.State.TheVariants.{Add}
use Rattle.sender.specs.declared.table.Table.{Table}
use Rattle.sender.specs.Commands.{with_slots}
use Rattle.sender.specs.Numbering.{Demand2}
use Rattle.sender.specs.Table.{members_of, slot_count}
use Rattle.cards.specs.Answers.{Answer, answer_number}
use Rattle.cards.specs.Answers.Answer.{Done, NotAllowed, Owned, WaitOpen}
use Rattle.cards.specs.declared.card.Card.{Card}
use Rattle.cards.specs.Calls.{outcome_of}
use Rattle.cards.specs.Calls.Call.{AddSlot, Claim, Lapse, RemoveSlot}
use Rattle.cards.specs.Owners.{has_owner}
use Rattle.cards.specs.Parts.{owns, sender_of}
use Rattle.cards.specs.Shown.{after, board, by, told}
use Rattle.cards.specs.Views.{Made}
use Rattle.cards.specs.Opened.{circuits_open}

-- group 0 has slot 0, group 1 has slot 1
abbrev shared : List Made → List Made
shared ms = by 0 (Claim 0) ∷ by 1 (Claim 1) ∷ ms

-- One numbering over both groups: a slot is added under the next number that neither has. 'Numbers, words, EOS and waits are per group', and 'Demand 2 reads per group': it breaks in the table of group 1, whose one member has number 1.
wrong_number : Card → ℕ
wrong_number c = members_of c.first.table.slots (slot_count c.first.table.count) + members_of c.second.table.slots (slot_count c.second.table.count)

wrong_added : Card → ℕ → ℕ → Table
wrong_added c g i =
    let t = (sender_of c g).table in with_slots t (set t.slots i (record { state = Add; number = wrong_number c })) t.wait

number_breaks :
    (Demand2 (wrong_added (after 2 (shared (by 0 (AddSlot 0) ∷ []))) 1 1) → ⊥)
    × (board 1 (after 2 (shared (by 0 (AddSlot 0) ∷ by 1 (AddSlot 1) ∷ []))) ≡ 5 ∷ 255 ∷ 1 ∷ 0 ∷ 0 ∷ [])
unfolding circuits_open wrong_number wrong_added
number_breaks = (λ d. let h : 1 < 1 = d.last 1 (omega arith) refl in omega arith, refl)

-- 3 before 14: with a wait open, a group would be told of its wait on a slot that is not its own. 'order 1, 14, 15, 3, 2'
wrong_order : Card → ℕ → ℕ → Answer
wrong_order c g i = if (sender_of c g).table.wait then WaitOpen else if owns c g i then Done else Owned

order_breaks :
    (answer_number (wrong_order (after 2 (shared (by 0 (AddSlot 0) ∷ by 0 (RemoveSlot 0) ∷ []))) 0 1) ≡ 3)
    × (told 2 (shared (by 0 (AddSlot 0) ∷ by 0 (RemoveSlot 0) ∷ [])) 0 (AddSlot 1) ≡ 14)
unfolding circuits_open wrong_order
order_breaks = (refl, refl)

-- A claim of one's own slot answered 0. 'on claim already owned by anyone'
wrong_claim : Card → ℕ → ℕ → Answer
wrong_claim c g i = if owns c g i then Done else if has_owner c.owners i then Owned else Done

claim_breaks : (answer_number (wrong_claim (after 2 (shared [])) 0 0) ≡ 0) × (told 2 (shared []) 0 (Claim 0) ≡ 14)
unfolding circuits_open wrong_claim
claim_breaks = (refl, refl)

-- Nobody's slot answered 2, and the other's 14: then an add tells what the other holds. 'A claim is the one answer through which the other's holdings show.'
wrong_nobody : Card → ℕ → ℕ → Answer
wrong_nobody c g i = if owns c g i then Done else if has_owner c.owners i then Owned else NotAllowed

nobody_breaks :
    (answer_number (wrong_nobody (after 2 (by 0 (Claim 0) ∷ [])) 0 1) ≡ 2)
    × (answer_number (wrong_nobody (after 2 (shared [])) 0 1) ≡ 14)
    × (told 2 (by 0 (Claim 0) ∷ []) 0 (AddSlot 1) ≡ 14)
    × (told 2 (shared []) 0 (AddSlot 1) ≡ 14)
unfolding circuits_open wrong_nobody
nobody_breaks = (refl, refl, refl, refl)

-- A lapse that closes both waits. 'waits are per group': the last number shown is the wait of group 1.
wrong_lapse : Card → Card
wrong_lapse c = (outcome_of (outcome_of c 0 Lapse).card 1 Lapse).card

abbrev waiting : List Made
waiting = by 0 (AddSlot 0) ∷ by 1 (AddSlot 1) ∷ by 0 (RemoveSlot 0) ∷ by 1 (RemoveSlot 1) ∷ []

lapse_breaks :
    (board 1 (wrong_lapse (after 2 (shared waiting))) ≡ 5 ∷ 255 ∷ 5 ∷ 255 ∷ 0 ∷ [])
    × (board 1 (outcome_of (after 2 (shared waiting)) 0 Lapse).card ≡ 5 ∷ 255 ∷ 5 ∷ 255 ∷ 1 ∷ [])
unfolding circuits_open wrong_lapse
lapse_breaks = (refl, refl)

-- Beside isolation, what a claim does tell: two runs alike in all calls of group 0 but for what group 1 holds.
claim_tells : (told 2 (by 1 (Claim 1) ∷ []) 0 (Claim 1) ≡ 14) × (told 2 [] 0 (Claim 1) ≡ 0)
unfolding circuits_open
claim_tells = (refl, refl)
