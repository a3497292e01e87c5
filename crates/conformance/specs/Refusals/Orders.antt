-- The one refusal of a work order (02, 2026-07): 'answers list of a different length than the commands is 9, and nothing is done'. Each command's own refusals are those of its single call (Cards.antt).
use Rattle.std.specs.Prelude.{refl, List, [], ◌∷◌, ℕ, length, take, ◌==◌}
use Rattle.ground.specs.Plain.{◌<?◌}
use Rattle.c_cards.specs.Orders.{order_answer_on, order_answers_on, order_state_on}
use Rattle.cards.specs.declared.card.Card.{Card}
use Rattle.cards.specs.Answers.{answer_number}
use Rattle.conformance.specs.Refusals.Entries.{Call, Copes, If, Unless, copes, stateful}
use Rattle.orders.specs.declared.commands.Command.{Command}
use Rattle.orders.specs.Orders.{answers_of, first_answers, first_ordered, ordered_of}

abbrev pub order : Card × List Command × List ℕ → Call
order (card, commands, answers) =
    stateful (Unless 9 (length commands == length answers) ∷ [])
    (answer_number (ordered_of card commands (length answers)).answer) (answers ∷ []) (answers_of card commands answers ∷ []) card (ordered_of card commands (length answers)).card card

pub order_copes : (x : Card × List Command × List ℕ) → Copes (order x)
order_copes (card, commands, answers) = copes _ (λ e. rw e refl, λ e. rw e (refl, refl, refl))

-- 9 also where n is more than there are
abbrev pub order_of : Card × List Command × ℕ × List ℕ → Call
order_of (card, commands, n, answers) =
    stateful (If 9 (64 <? n) ∷ Unless 9 (length (take n commands) == length answers) ∷ [])
    (answer_number (first_ordered card commands n (length answers)).answer) (answers ∷ []) (first_answers card commands n answers ∷ []) card (first_ordered card commands n (length answers)).card card

pub order_of_copes : (x : Card × List Command × ℕ × List ℕ) → Copes (order_of x)
order_of_copes (card, commands, n, answers) = copes _ (λ m. rw m (refl, refl, refl), λ m. (λ e. rw (m, e) refl, λ e. rw (m, e) (refl, refl, refl)))

-- through C: a state of another length is 9 as everywhere
abbrev pub order_c : List ℕ × List (List ℕ) × List ℕ → Call
order_c (state, commands, answers) =
    stateful (Unless 9 (length state == 858) ∷ Unless 9 (length commands == length answers) ∷ [])
    (order_answer_on state commands answers) (answers ∷ []) (order_answers_on state commands answers ∷ []) state (order_state_on state commands answers) state

pub order_c_copes : (x : List ℕ × List (List ℕ) × List ℕ) → Copes (order_c x)
unfolding order_answer_on order_state_on order_answers_on
order_c_copes (state, commands, answers) = copes _ (λ l. (λ e. rw (l, e) refl, λ e. rw (l, e) (refl, refl, refl)), λ l. rw l (refl, refl, refl))
