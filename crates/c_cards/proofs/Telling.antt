-- Changes written piece by piece are the table of their bytes, and each way out of the calls on them.
use mathlib.Core.Path.{◌≡◌, refl, sym, ◌∙◌, ap}
use mathlib.Core.List.{List, [], ◌∷◌}
use Prim.Native.Nat.{ℕ, ◌+◌, ◌-◌, ◌*◌, ◌/◌, ◌%◌, ◌≤◌, ◌<◌}
use native.Mathlib.Omega.{arith}
use lib.ListN.{length, get_or}
use borrow.Author.Tests.{eq-eqb, ne_eqb, le-ltb, lt-ltb}
use Rattle.ground.specs.Drawn.{Filling, fill_at, fill_at_ext, filling, filling_all, filling_piece}
use Rattle.spoken.specs.Applying.{applied_of, change_in}
use Rattle.spoken.specs.Changes.{answer_number, compared_of}
use Rattle.spoken.specs.declared.lists.Change.{Change}
use Rattle.spoken.specs.declared.lists.Changes.{Changes}
use Rattle.spoken.specs.Answers.{Speech}
use Rattle.spoken.specs.Shown.{wait_code}
use Rattle.spoken.specs.Speaking.{SPEECH-ROOM, speech_bytes, speech_of}
use Rattle.spoken.specs.SpeakingRuns.{runs_speech_bytes, runs_speech_of}
use Rattle.c_face.specs.Boards.{board_bytes_of}
use Rattle.c_cards.specs.Changes.{answer_by, applied_answer_c, applied_bytes_c, board_from, bytes_by, change_bytes, changes_byte, changes_bytes_of, changes_from, compared_answer_c, compared_bytes_c, list_byte, spoken_answer_c, spoken_bytes_c, written_by, written_c}
use Rattle.c_cards.specs.Runs.{runs_answer_c, runs_bytes_c, runs_written_c}

-- five bytes more
pub five_more : {out₀ out new : List ℕ} (list : List Change) (i : ℕ) (five : List ℕ) → five ≡ change_bytes (change_in list i) → Filling 2 (5 * i) (list_byte list) out₀ out
    → new ≡ fill_at (2 + 5 * i) (length five) (λ k. get_or five k 0) out → Filling 2 (5 * (i + 1)) (list_byte list) out₀ new
five_more {out₀} {out} {new} list i five e f s =
    let t : new ≡ fill_at (2 + 5 * i) 5 (λ k. get_or (change_bytes (change_in list i)) k 0) out = s ∙ ap (λ (l : List ℕ). fill_at (2 + 5 * i) (length l) (λ k. get_or l k 0) out) e in
    let n : 5 * i + 5 ≡ 5 * (i + 1) = omega arith in
    rw n at (filling_piece 5 (λ k. get_or (change_bytes (change_in list i)) k 0) new f t agree)
  where
    agree : (j : ℕ) → j < 5 → get_or (change_bytes (change_in list i)) j 0 ≡ list_byte list (5 * i + j)
    agree j h =
        let q : (5 * i + j) / 5 ≡ i = omega arith in
        let r : (5 * i + j) % 5 ≡ j = omega arith in
        rw (q, r) refl

module _ (cs : Changes) where
  head_bytes : (j : ℕ) → j < 2 → get_or (cs.count ∷ wait_code cs.wait ∷ []) j 0 ≡ changes_byte cs j
  unfolding changes_byte
  head_bytes j h = rw (lt-ltb j 2 h) refl

  list_bytes : (j : ℕ) → j < 320 → list_byte cs.list j ≡ changes_byte cs (2 + j)
  unfolding changes_byte
  list_bytes j h = let e : 2 + j - 2 ≡ j = omega arith in rw (le-ltb (2 + j) 2 (omega arith), e) refl

  pub changes_whole : (w : ℕ) (d a out : List ℕ) → length d ≡ 322 → w ≡ wait_code cs.wait → a ≡ fill_at 0 2 (λ k. get_or (cs.count ∷ w ∷ []) k 0) d
      → out ≡ fill_at 2 320 (list_byte cs.list) a → out ≡ changes_bytes_of cs
  unfolding changes_bytes_of
  changes_whole w d a out l ew ea eo =
      let e : a ≡ fill_at 0 2 (λ k. get_or (cs.count ∷ wait_code cs.wait ∷ []) k 0) d = ea ∙ ap (λ (v : ℕ). fill_at 0 2 (λ k. get_or (cs.count ∷ v ∷ []) k 0) d) ew in
      let A : Filling 0 2 (changes_byte cs) d a = filling 0 2 (changes_byte cs) d a (e ∙ fill_at_ext 0 2 (λ k. get_or (cs.count ∷ wait_code cs.wait ∷ []) k 0) (changes_byte cs) d head_bytes) in
      let B : Filling 0 322 (changes_byte cs) d out = filling_piece 320 (list_byte cs.list) out A eo list_bytes in
      filling_all B l

module _ (old new out : List ℕ) where
  compared_kept : (n : ℕ) → compared_answer_c old new out ≡ n → (n ≡ 0 → ⊥) → (n ≡ compared_answer_c old new out) × (out ≡ compared_bytes_c old new out)
  unfolding compared_bytes_c
  compared_kept n e d = (sym e, rw (e, ne_eqb n 0 d) refl)

  pub compared_first : (length old ≡ 130 → ⊥) → (9 ≡ compared_answer_c old new out) × (out ≡ compared_bytes_c old new out)
  unfolding compared_answer_c
  compared_first d = compared_kept 9 (rw (ne_eqb (length old) 130 d)) (λ z. omega arith)

  pub compared_second : length old ≡ 130 → (length new ≡ 130 → ⊥) → (9 ≡ compared_answer_c old new out) × (out ≡ compared_bytes_c old new out)
  unfolding compared_answer_c
  compared_second l d = compared_kept 9 (rw (eq-eqb (length old) 130 l, ne_eqb (length new) 130 d)) (λ z. omega arith)

  pub compared_third : length old ≡ 130 → length new ≡ 130 → (length out ≡ 322 → ⊥) → (9 ≡ compared_answer_c old new out) × (out ≡ compared_bytes_c old new out)
  unfolding compared_answer_c
  compared_third l m d = compared_kept 9 (rw (eq-eqb (length old) 130 l, eq-eqb (length new) 130 m, ne_eqb (length out) 322 d)) (λ z. omega arith)

  module _ (l : length old ≡ 130) (m : length new ≡ 130) (k : length out ≡ 322) (n : ℕ) (e : n ≡ answer_number (compared_of (board_from old) (board_from new)).answer) where
    own : compared_answer_c old new out ≡ n
    unfolding compared_answer_c
    own = rw (eq-eqb (length old) 130 l, eq-eqb (length new) 130 m, eq-eqb (length out) 322 k) (sym e)

    pub compared_refusal : (n ≡ 0 → ⊥) → (n ≡ compared_answer_c old new out) × (out ≡ compared_bytes_c old new out)
    compared_refusal d = compared_kept n own d

    pub compared_told : (left : List ℕ) → n ≡ 0 → left ≡ changes_bytes_of (compared_of (board_from old) (board_from new)).changes → (0 ≡ compared_answer_c old new out) × (left ≡ compared_bytes_c old new out)
    unfolding compared_bytes_c
    compared_told left z s = (sym (own ∙ z), rw (own, z) s)

module _ (board changes : List ℕ) where
  applied_kept : (n : ℕ) → applied_answer_c board changes ≡ n → (n ≡ 0 → ⊥) → (n ≡ applied_answer_c board changes) × (board ≡ applied_bytes_c board changes)
  unfolding applied_bytes_c
  applied_kept n e d = (sym e, rw (e, ne_eqb n 0 d) refl)

  pub applied_first : (length board ≡ 130 → ⊥) → (9 ≡ applied_answer_c board changes) × (board ≡ applied_bytes_c board changes)
  unfolding applied_answer_c
  applied_first d = applied_kept 9 (rw (ne_eqb (length board) 130 d)) (λ z. omega arith)

  pub applied_second : length board ≡ 130 → (length changes ≡ 322 → ⊥) → (9 ≡ applied_answer_c board changes) × (board ≡ applied_bytes_c board changes)
  unfolding applied_answer_c
  applied_second l d = applied_kept 9 (rw (eq-eqb (length board) 130 l, ne_eqb (length changes) 322 d)) (λ z. omega arith)

  module _ (l : length board ≡ 130) (m : length changes ≡ 322) where
    pub applied_wait : 3 ≤ get_or changes 1 0 → (2 ≡ applied_answer_c board changes) × (board ≡ applied_bytes_c board changes)
    unfolding applied_answer_c
    applied_wait h = applied_kept 2 (rw (eq-eqb (length board) 130 l, eq-eqb (length changes) 322 m, le-ltb (get_or changes 1 0) 3 h)) (λ z. omega arith)

    module _ (w : get_or changes 1 0 < 3) (n : ℕ) (e : n ≡ answer_number (applied_of (board_from board) (changes_from changes)).answer) where
      apply_own : applied_answer_c board changes ≡ n
      unfolding applied_answer_c
      apply_own = rw (eq-eqb (length board) 130 l, eq-eqb (length changes) 322 m, lt-ltb (get_or changes 1 0) 3 w) (sym e)

      pub applied_refusal : (n ≡ 0 → ⊥) → (n ≡ applied_answer_c board changes) × (board ≡ applied_bytes_c board changes)
      applied_refusal d = applied_kept n apply_own d

      pub applied_told : (left : List ℕ) → n ≡ 0 → left ≡ board_bytes_of (applied_of (board_from board) (changes_from changes)).board → (0 ≡ applied_answer_c board changes) × (left ≡ applied_bytes_c board changes)
      unfolding applied_bytes_c
      applied_told left z s = (sym (apply_own ∙ z), rw (apply_own, z) s)

-- a call that speaks changes in some way: each way out
module _ (speech : Changes → List ℕ → Speech) (said : Changes → List ℕ → List ℕ) (changes text : List ℕ) (written : ℕ) where
  abbrev SpeaksBy : ℕ → List ℕ → ℕ → Type 0
  SpeaksBy n left w = (n ≡ answer_by speech changes text) × (left ≡ bytes_by said changes text) × (w ≡ written_by speech changes text written)

  by_first : (length changes ≡ 322 → ⊥) → SpeaksBy 9 text written
  by_first d = rw (ne_eqb (length changes) 322 d) (refl, refl, refl)

  by_second : length changes ≡ 322 → length text < SPEECH-ROOM → SpeaksBy 9 text written
  by_second l h = rw (eq-eqb (length changes) 322 l, lt-ltb (length text) SPEECH-ROOM h) (refl, refl, refl)

  module _ (l : length changes ≡ 322) (h : SPEECH-ROOM ≤ length text) where
    by_wait : 3 ≤ get_or changes 1 0 → SpeaksBy 2 text written
    by_wait w = rw (eq-eqb (length changes) 322 l, le-ltb (length text) SPEECH-ROOM h, le-ltb (get_or changes 1 0) 3 w) (refl, refl, refl)

    module _ (w : get_or changes 1 0 < 3) (r : Speech) (n : ℕ) (left : List ℕ) (s : r ≡ speech (changes_from changes) text) (e : n ≡ answer_number r.answer)
        (b : left ≡ said (changes_from changes) text) where
      by_refusal : (n ≡ 0 → ⊥) → SpeaksBy n left written
      by_refusal d =
          let q : n ≡ answer_number (speech (changes_from changes) text).answer = e ∙ ap (λ (v : Speech). answer_number v.answer) s in
          rw (eq-eqb (length changes) 322 l, le-ltb (length text) SPEECH-ROOM h, lt-ltb (get_or changes 1 0) 3 w, ← q, ne_eqb n 0 d) (refl, b, refl)

      by_told : n ≡ 0 → SpeaksBy 0 left r.written
      by_told z =
          let q : 0 ≡ answer_number (speech (changes_from changes) text).answer = sym z ∙ e ∙ ap (λ (v : Speech). answer_number v.answer) s in
          rw (eq-eqb (length changes) 322 l, le-ltb (length text) SPEECH-ROOM h, lt-ltb (get_or changes 1 0) 3 w, ← q) (refl, b, ap (λ (v : Speech). v.written) s)

-- one line a slot
module _ (changes text : List ℕ) where
  module _ (written : ℕ) where
    abbrev Speaks : ℕ → List ℕ → ℕ → Type 0
    Speaks n left w = (n ≡ spoken_answer_c changes text) × (left ≡ spoken_bytes_c changes text) × (w ≡ written_c changes text written)

    pub spoken_first : (length changes ≡ 322 → ⊥) → Speaks 9 text written
    unfolding spoken_answer_c spoken_bytes_c written_c
    spoken_first d = by_first speech_of speech_bytes changes text written d

    pub spoken_second : length changes ≡ 322 → length text < SPEECH-ROOM → Speaks 9 text written
    unfolding spoken_answer_c spoken_bytes_c written_c
    spoken_second l h = by_second speech_of speech_bytes changes text written l h

    module _ (l : length changes ≡ 322) (h : SPEECH-ROOM ≤ length text) where
      pub spoken_wait : 3 ≤ get_or changes 1 0 → Speaks 2 text written
      unfolding spoken_answer_c spoken_bytes_c written_c
      spoken_wait w = by_wait speech_of speech_bytes changes text written l h w

      module _ (w : get_or changes 1 0 < 3) (r : Speech) (n : ℕ) (left : List ℕ) (s : r ≡ speech_of (changes_from changes) text) (e : n ≡ answer_number r.answer)
          (b : left ≡ speech_bytes (changes_from changes) text) where
        pub spoken_refusal : (n ≡ 0 → ⊥) → Speaks n left written
        unfolding spoken_answer_c spoken_bytes_c written_c
        spoken_refusal d = by_refusal speech_of speech_bytes changes text written l h w r n left s e b d

        pub spoken_told : n ≡ 0 → Speaks 0 left r.written
        unfolding spoken_answer_c spoken_bytes_c written_c
        spoken_told z = by_told speech_of speech_bytes changes text written l h w r n left s e b z

-- in runs
module _ (changes text : List ℕ) where
  module _ (written : ℕ) where
    abbrev Tells : ℕ → List ℕ → ℕ → Type 0
    Tells n left w = (n ≡ runs_answer_c changes text) × (left ≡ runs_bytes_c changes text) × (w ≡ runs_written_c changes text written)

    pub runs_first : (length changes ≡ 322 → ⊥) → Tells 9 text written
    unfolding runs_answer_c runs_bytes_c runs_written_c
    runs_first d = by_first runs_speech_of runs_speech_bytes changes text written d

    pub runs_second : length changes ≡ 322 → length text < SPEECH-ROOM → Tells 9 text written
    unfolding runs_answer_c runs_bytes_c runs_written_c
    runs_second l h = by_second runs_speech_of runs_speech_bytes changes text written l h

    module _ (l : length changes ≡ 322) (h : SPEECH-ROOM ≤ length text) where
      pub runs_wait : 3 ≤ get_or changes 1 0 → Tells 2 text written
      unfolding runs_answer_c runs_bytes_c runs_written_c
      runs_wait w = by_wait runs_speech_of runs_speech_bytes changes text written l h w

      module _ (w : get_or changes 1 0 < 3) (r : Speech) (n : ℕ) (left : List ℕ) (s : r ≡ runs_speech_of (changes_from changes) text) (e : n ≡ answer_number r.answer)
          (b : left ≡ runs_speech_bytes (changes_from changes) text) where
        pub runs_refusal : (n ≡ 0 → ⊥) → Tells n left written
        unfolding runs_answer_c runs_bytes_c runs_written_c
        runs_refusal d = by_refusal runs_speech_of runs_speech_bytes changes text written l h w r n left s e b d

        pub runs_told : n ≡ 0 → Tells 0 left r.written
        unfolding runs_answer_c runs_bytes_c runs_written_c
        runs_told z = by_told runs_speech_of runs_speech_bytes changes text written l h w r n left s e b z
