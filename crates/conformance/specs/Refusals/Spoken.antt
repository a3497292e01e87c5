-- The refusals of the spoken board (02, 2026-10): 'different counts is 4, changes that don't fit the board they are applied to is 2, and the board stays'; a buffer for the lines 9, then 2. The C calls: 9 first.
use Rattle.std.specs.Prelude.{refl, List, [], ◌∷◌, ℕ, get_or, length, ◌==◌}
use Rattle.ground.specs.Plain.{◌<?◌, ◌≤?◌}
use Rattle.c_cards.specs.Changes.{applied_answer_c, applied_bytes_c, board_from, changes_from, compared_answer_c, compared_bytes_c, spoken_answer_c, spoken_bytes_c, written_c}
use Rattle.c_cards.specs.Runs.{runs_answer_c, runs_bytes_c, runs_written_c, whole_answer_c, whole_bytes_c, whole_written_c}
use Rattle.conformance.specs.Refusals.Entries.{Call, Copes, If, Refusal, Unless, copes, stateful, stateless}
use Rattle.sender.specs.declared.board.Board.{Board}
use Rattle.spoken.specs.Applying.{applied_of, fits}
use Rattle.spoken.specs.Changes.{answer_number, compared_of, no_changes}
use Rattle.spoken.specs.declared.lists.Changes.{Changes}
use Rattle.spoken.specs.Speaking.{can_speak, speak_answer, speech_bytes, speech_of}
use Rattle.spoken.specs.SpeakingRuns.{can_speak_whole, runs_speech_bytes, runs_speech_of, whole_answer, whole_speech_bytes, whole_speech_of}

-- 4 also where both counts are above 64. There are no changes before the call, so none stand for what is given.
abbrev count_refusals : Board → Board → List Refusal
count_refusals old new = Unless 4 (old.count == new.count) ∷ Unless 4 (old.count ≤? 64) ∷ []

abbrev pub changes : Board × Board → Call
changes (old, new) = stateful (count_refusals old new) (answer_number (compared_of old new).answer) [] [] no_changes (compared_of old new).changes no_changes

pub changes_copes : (x : Board × Board) → Copes (changes x)
unfolding compared_of
changes_copes (old, new) = copes _ (λ c. (λ s. rw (c, s), λ s. rw (c, s) (refl, refl, refl)), λ c. rw c (refl, refl, refl))

abbrev pub apply : Board × Changes → Call
apply (board, changes) = stateful (Unless 2 (fits board changes) ∷ []) (answer_number (applied_of board changes).answer) [] [] board (applied_of board changes).board board

pub apply_copes : (x : Board × Changes) → Copes (apply x)
unfolding applied_of
apply_copes (board, changes) = copes _ (λ f. rw f, λ f. rw f (refl, refl, refl))

-- nothing is written under a refusal, so 0 stands for what is given
abbrev pub speak : Changes × List ℕ → Call
speak (changes, out) =
    stateful (If 9 (length out <? 2188) ∷ Unless 2 (can_speak changes) ∷ [])
    (answer_number (speech_of changes out).answer) (out ∷ []) (speech_bytes changes out ∷ []) 0 (speech_of changes out).written 0

pub speak_copes : (x : Changes × List ℕ) → Copes (speak x)
unfolding speech_of speak_answer speech_bytes
speak_copes (changes, out) = copes _ (λ l. rw l (refl, refl, refl), λ l. (λ s. rw (l, s), λ s. rw (l, s) (refl, refl, refl)))

-- in runs it is refused as one line a slot is
abbrev pub speak_runs : Changes × List ℕ → Call
speak_runs (changes, out) =
    stateful (If 9 (length out <? 2188) ∷ Unless 2 (can_speak changes) ∷ [])
    (answer_number (runs_speech_of changes out).answer) (out ∷ []) (runs_speech_bytes changes out ∷ []) 0 (runs_speech_of changes out).written 0

pub speak_runs_copes : (x : Changes × List ℕ) → Copes (speak_runs x)
unfolding runs_speech_of speak_answer runs_speech_bytes
speak_runs_copes (changes, out) = copes _ (λ l. rw l (refl, refl, refl), λ l. (λ s. rw (l, s), λ s. rw (l, s) (refl, refl, refl)))

abbrev pub speak_whole : Board × List ℕ → Call
speak_whole (board, out) =
    stateful (If 9 (length out <? 2188) ∷ Unless 2 (can_speak_whole board) ∷ [])
    (answer_number (whole_speech_of board out).answer) (out ∷ []) (whole_speech_bytes board out ∷ []) 0 (whole_speech_of board out).written 0

pub speak_whole_copes : (x : Board × List ℕ) → Copes (speak_whole x)
unfolding whole_speech_of whole_answer whole_speech_bytes
speak_whole_copes (board, out) = copes _ (λ l. rw l (refl, refl, refl), λ l. (λ s. rw (l, s), λ s. rw (l, s) (refl, refl, refl)))

abbrev pub changes_c : List ℕ × List ℕ × List ℕ → Call
changes_c (before, after, changes) =
    stateless (Unless 9 (length before == 130) ∷ Unless 9 (length after == 130) ∷ Unless 9 (length changes == 322) ∷ count_refusals (board_from before) (board_from after))
    (compared_answer_c before after changes) (changes ∷ []) (compared_bytes_c before after changes ∷ [])

pub changes_c_copes : (x : List ℕ × List ℕ × List ℕ) → Copes (changes_c x)
unfolding compared_answer_c compared_bytes_c compared_of
changes_c_copes (before, after, changes) =
    copes _ (
      λ l. (
        λ m. (
          λ k. (λ c. (λ s. rw (l, m, k, c, s), λ s. rw (l, m, k, c, s) (refl, refl, refl)), λ c. rw (l, m, k, c) (refl, refl, refl)),
          λ k. rw (l, m, k) (refl, refl, refl),
        ),
        λ m. rw (l, m) (refl, refl, refl),
      ),
      λ l. rw l (refl, refl, refl),
    )

-- a wait that is none of 0, 1 and 2 does not fit
abbrev pub apply_c : List ℕ × List ℕ → Call
apply_c (board, changes) =
    stateless (Unless 9 (length board == 130) ∷ Unless 9 (length changes == 322) ∷ Unless 2 (get_or changes 1 0 <? 3) ∷ Unless 2 (fits (board_from board) (changes_from changes)) ∷ [])
    (applied_answer_c board changes) (board ∷ []) (applied_bytes_c board changes ∷ [])

pub apply_c_copes : (x : List ℕ × List ℕ) → Copes (apply_c x)
unfolding applied_answer_c applied_bytes_c applied_of
apply_c_copes (board, changes) =
    copes _
    (λ l. (λ m. (λ w. (λ f. rw (l, m, w, f), λ f. rw (l, m, w, f) (refl, refl, refl)), λ w. rw (l, m, w) (refl, refl, refl)), λ m. rw (l, m) (refl, refl, refl)), λ l. rw l (refl, refl, refl))

abbrev pub speak_c : List ℕ × List ℕ × ℕ → Call
speak_c (changes, text, written) =
    stateful (Unless 9 (length changes == 322) ∷ If 9 (length text <? 2188) ∷ Unless 2 (get_or changes 1 0 <? 3) ∷ Unless 2 (can_speak (changes_from changes)) ∷ [])
    (spoken_answer_c changes text) (text ∷ []) (spoken_bytes_c changes text ∷ []) written (written_c changes text written) written

pub speak_c_copes : (x : List ℕ × List ℕ × ℕ) → Copes (speak_c x)
unfolding spoken_answer_c spoken_bytes_c written_c speech_of speak_answer speech_bytes
speak_c_copes (changes, text, written) =
    copes _
    (λ l. (λ h. rw (l, h) (refl, refl, refl), λ h. (λ w. (λ s. rw (l, h, w, s), λ s. rw (l, h, w, s) (refl, refl, refl)), λ w. rw (l, h, w) (refl, refl, refl))), λ l. rw l (refl, refl, refl))

abbrev pub speak_runs_c : List ℕ × List ℕ × ℕ → Call
speak_runs_c (changes, text, written) =
    stateful (Unless 9 (length changes == 322) ∷ If 9 (length text <? 2188) ∷ Unless 2 (get_or changes 1 0 <? 3) ∷ Unless 2 (can_speak (changes_from changes)) ∷ [])
    (runs_answer_c changes text) (text ∷ []) (runs_bytes_c changes text ∷ []) written (runs_written_c changes text written) written

pub speak_runs_c_copes : (x : List ℕ × List ℕ × ℕ) → Copes (speak_runs_c x)
unfolding runs_answer_c runs_bytes_c runs_written_c runs_speech_of speak_answer runs_speech_bytes
speak_runs_c_copes (changes, text, written) =
    copes _
    (λ l. (λ h. rw (l, h) (refl, refl, refl), λ h. (λ w. (λ s. rw (l, h, w, s), λ s. rw (l, h, w, s) (refl, refl, refl)), λ w. rw (l, h, w) (refl, refl, refl))), λ l. rw l (refl, refl, refl))

abbrev pub speak_whole_c : List ℕ × List ℕ × ℕ → Call
speak_whole_c (board, text, written) =
    stateful (Unless 9 (length board == 130) ∷ If 9 (length text <? 2188) ∷ Unless 2 (can_speak_whole (board_from board)) ∷ [])
    (whole_answer_c board text) (text ∷ []) (whole_bytes_c board text ∷ []) written (whole_written_c board text written) written

pub speak_whole_c_copes : (x : List ℕ × List ℕ × ℕ) → Copes (speak_whole_c x)
unfolding whole_answer_c whole_bytes_c whole_written_c whole_speech_of whole_answer whole_speech_bytes
speak_whole_c_copes (board, text, written) =
    copes _ (λ l. (λ h. rw (l, h) (refl, refl, refl), λ h. (λ s. rw (l, h, s), λ s. rw (l, h, s) (refl, refl, refl))), λ l. rw l (refl, refl, refl))
