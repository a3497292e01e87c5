-- The refusals of the calls that tell the changes of the board going out (02, 2026-10): 9 for the state, of a card 1 for the group, 9 for the board told and for the changes, then 'different counts is 4'.
use Rattle.std.specs.Prelude.{refl, List, [], ◌∷◌, ℕ, get_or, length, ◌==◌}
use Rattle.ground.specs.Plain.{◌<?◌, ◌≤?◌}
use Rattle.c_cards.specs.Cards.{card_of}
use Rattle.c_cards.specs.Going.{changes_answer_c, changes_answer_on, changes_bytes_c, changes_bytes_on, changes_told_c, changes_told_on, going_answer, going_changes, going_told}
use Rattle.c_face.specs.Keeping.{sender_of}
use Rattle.cards.specs.Readings.{outgoing_shown}
use Rattle.conformance.specs.Refusals.Entries.{Call, Copes, Refusal, Unless, copes, stateless}
use Rattle.sender.specs.declared.board.Board.{Board}
use Rattle.spoken.specs.Changes.{compared_of}

-- the count of the board told against that of the board going out
abbrev tell_refusals : (going : Board) (told changes : List ℕ) → List Refusal
tell_refusals going told changes = Unless 9 (length told == 130) ∷ Unless 9 (length changes == 322) ∷ Unless 4 (get_or told 0 0 == going.count) ∷ Unless 4 (get_or told 0 0 ≤? 64) ∷ []

abbrev pub sender : List ℕ × List ℕ × List ℕ → Call
sender (state, told, changes) =
    stateless (Unless 9 (length state == 397) ∷ tell_refusals (sender_of state).outgoing told changes)
    (changes_answer_c state told changes) (told ∷ changes ∷ []) (changes_told_c state told changes ∷ changes_bytes_c state told changes ∷ [])

pub sender_copes : (x : List ℕ × List ℕ × List ℕ) → Copes (sender x)
unfolding changes_answer_c changes_told_c changes_bytes_c going_answer going_told going_changes compared_of
sender_copes (state, told, changes) =
    copes _ (
      λ l. (
        λ m. (
          λ k. (λ c. (λ s. rw (l, m, k, c, s), λ s. rw (l, m, k, c, s) (refl, refl, refl)), λ c. rw (l, m, k, c) (refl, refl, refl)),
          λ k. rw (l, m, k) (refl, refl, refl),
        ),
        λ m. rw (l, m) (refl, refl, refl),
      ),
      λ l. rw l (refl, refl, refl),
    )

abbrev pub card : List ℕ × ℕ × List ℕ × List ℕ → Call
card (state, group, told, changes) =
    stateless (Unless 9 (length state == 858) ∷ Unless 1 (group <? 2) ∷ tell_refusals (outgoing_shown (card_of state) group).board told changes)
    (changes_answer_on state group told changes) (told ∷ changes ∷ []) (changes_told_on state group told changes ∷ changes_bytes_on state group told changes ∷ [])

pub card_copes : (x : List ℕ × ℕ × List ℕ × List ℕ) → Copes (card x)
unfolding changes_answer_on changes_told_on changes_bytes_on going_answer going_told going_changes compared_of
card_copes (state, group, told, changes) =
    copes _ (
      λ l. (
        λ g. (
          λ m. (
            λ k. (λ c. (λ s. rw (l, g, m, k, c, s), λ s. rw (l, g, m, k, c, s) (refl, refl, refl)), λ c. rw (l, g, m, k, c) (refl, refl, refl)),
            λ k. rw (l, g, m, k) (refl, refl, refl),
          ),
          λ m. rw (l, g, m) (refl, refl, refl),
        ),
        λ g. rw (l, g) (refl, refl, refl),
      ),
      λ l. rw l (refl, refl, refl),
    )
