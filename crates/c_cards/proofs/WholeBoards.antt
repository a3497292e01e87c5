-- Each way out of the call that speaks a whole board.
use mathlib.Core.Path.{◌≡◌, refl, sym, ◌∙◌, ap}
use mathlib.Core.List.{List}
use Prim.Native.Nat.{ℕ, ◌≤◌, ◌<◌}
use lib.ListN.{length}
use borrow.Author.Tests.{eq-eqb, ne_eqb, le-ltb, lt-ltb}
use Rattle.spoken.specs.Changes.{answer_number}
use Rattle.spoken.specs.Answers.{Speech}
use Rattle.spoken.specs.Speaking.{SPEECH-ROOM}
use Rattle.spoken.specs.SpeakingRuns.{whole_speech_bytes, whole_speech_of}
use Rattle.c_cards.specs.Changes.{board_from}
use Rattle.c_cards.specs.Runs.{whole_answer_c, whole_bytes_c, whole_written_c}

module _ (board text : List ℕ) (written : ℕ) where
  abbrev Speaks : ℕ → List ℕ → ℕ → Type 0
  Speaks n left w = (n ≡ whole_answer_c board text) × (left ≡ whole_bytes_c board text) × (w ≡ whole_written_c board text written)

  pub whole_first : (length board ≡ 130 → ⊥) → Speaks 9 text written
  unfolding whole_answer_c whole_bytes_c whole_written_c
  whole_first d = rw (ne_eqb (length board) 130 d) (refl, refl, refl)

  pub whole_second : length board ≡ 130 → length text < SPEECH-ROOM → Speaks 9 text written
  unfolding whole_answer_c whole_bytes_c whole_written_c
  whole_second l h = rw (eq-eqb (length board) 130 l, lt-ltb (length text) SPEECH-ROOM h) (refl, refl, refl)

  module _ (l : length board ≡ 130) (h : SPEECH-ROOM ≤ length text) (r : Speech) (n : ℕ) (left : List ℕ) (s : r ≡ whole_speech_of (board_from board) text)
      (e : n ≡ answer_number r.answer) (b : left ≡ whole_speech_bytes (board_from board) text) where
    pub whole_refusal : (n ≡ 0 → ⊥) → Speaks n left written
    unfolding whole_answer_c whole_bytes_c whole_written_c
    whole_refusal d =
        let q : n ≡ answer_number (whole_speech_of (board_from board) text).answer = e ∙ ap (λ (v : Speech). answer_number v.answer) s in
        rw (eq-eqb (length board) 130 l, le-ltb (length text) SPEECH-ROOM h, ← q, ne_eqb n 0 d) (refl, b, refl)

    pub whole_told : n ≡ 0 → Speaks 0 left r.written
    unfolding whole_answer_c whole_bytes_c whole_written_c
    whole_told z =
        let q : 0 ≡ answer_number (whole_speech_of (board_from board) text).answer = sym z ∙ e ∙ ap (λ (v : Speech). answer_number v.answer) s in
        rw (eq-eqb (length board) 130 l, le-ltb (length text) SPEECH-ROOM h, ← q) (refl, b, ap (λ (v : Speech). v.written) s)
