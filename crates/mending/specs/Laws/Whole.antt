-- The whole recording: its first line, the lines behind it, and what the calls answer and leave.
use Rattle.std.specs.Prelude.{◌≡◌, Bool, true, false, cond, ◌&&◌, List, ◌++◌, ℕ, ◌+◌, ◌≤◌, ◌<◌, eqb, leb, drop, length, take}
use Rattle.std.proofs.Math.Path.{refl, sym}
use Rattle.std.proofs.Common.{ap, ◌∙◌, arith, length-append, length-take-le, eqb-true, leb-false, ne_eqb}
use Rattle.ground.specs.Truth.{and_left, and_right}
use Rattle.mending.specs.declared.measuring.Lengths.{Lengths}
use Rattle.mending.specs.declared.opening.Start.{Start}
use Rattle.mending.specs.Laws.Noted.{noted_is}
use Rattle.mending.specs.Laws.Copies.{written_length}
use Rattle.mending.specs.Laws.Lengths.{kept_length_is, notes_length_is}
use Rattle.mending.specs.Laws.Swept.{sweep_is}
use Rattle.mending.specs.Laws.Sweeps.{count_start, kept_length, notes_swept, notes_length, sweep_end, sweep_start, swept}
use Rattle.mending.specs.Laws.Starts.{Opens, opens, start_answer_lem, start_of}
use Rattle.mending.specs.Lines.{Line, judged, lines_with, mended_lines, text_of}
use Rattle.mending.specs.Mending.{mend_answer, mended_of, notes_of, read_answer}
use Rattle.mending.specs.Told.{LARGEST, lengths_of, mended_left, notes_left, told}

-- a length is the one told exactly if it is the true one
told_length : (m n : ℕ) → m < LARGEST → eqb m (told n) ≡ eqb m n
told_length m n h = go (leb n LARGEST) refl
  where
    go : (t : Bool) → leb n LARGEST ≡ t → eqb m (cond t n LARGEST) ≡ eqb m n
    go true t = refl
    go false t =
        let k = leb-false n LARGEST t in
        ne_eqb m LARGEST (λ (e : m ≡ LARGEST). omega arith) ∙ sym (ne_eqb m n (λ (e : m ≡ n). omega arith))

abbrev lines_behind : Start → List ℕ → List Line
lines_behind s text = lines_with (drop s.next text)

-- refused

module _ (text : List ℕ) (s : Start) (e : s ≡ start_of text) (z : s.answer ≡ 0 → ⊥) where
  refused_answer : read_answer text ≡ s.answer
  refused_answer = sym (start_answer_lem text) ∙ ap (λ (x : Start). x.answer) (sym e)

  refused_some : eqb s.answer 0 ≡ false
  refused_some = ne_eqb s.answer 0 z

  pub lengths_refused : (r : Lengths) → r ≡ record { mended = 0; notes = 0; answer = s.answer } → r ≡ lengths_of text
  unfolding lengths_of
  lengths_refused r h = h ∙ rw (refused_answer, refused_some) refl

  pub mend_refused : (mended notes : List ℕ) → (s.answer ≡ mend_answer text (length mended) (length notes)) × (mended ≡ mended_left text mended notes) × (notes ≡ notes_left text mended notes)
  unfolding mend_answer mended_left notes_left
  mend_refused mended notes =
      let a : mend_answer text (length mended) (length notes) ≡ s.answer = rw (refused_answer, refused_some) refl in
      (sym a, rw (a, refused_some) refl, rw (a, refused_some) refl)

-- taken

module _ (text : List ℕ) (s : Start) (e : s ≡ start_of text) (z : s.answer ≡ 0) where
  taken : Opens text s
  taken = rw e (opens text (rw e at z))

  taken_answer : read_answer text ≡ 0
  taken_answer = sym (start_answer_lem text) ∙ (ap (λ (x : Start). x.answer) (sym e) ∙ z)

  pub lines_within : (s.next ≤ length text) × (s.ports ≤ 64)
  lines_within = (taken.within, taken.few)

  front : length (take s.next text) ≡ s.next
  front = length-take-le s.next text taken.within

  mended_length : length (mended_of text) ≡ s.next + kept_length s.ports s.size (lines_behind s text)
  mended_length =
      ap length taken.mended_is
      ∙ (length-append (take s.next text) (text_of (mended_lines s.size (judged s.counted s.ports s.size (lines_behind s text))))
      ∙ (let a = front in let b = kept_length_is s.counted s.ports s.size (lines_behind s text) in omega arith))

  notes_length_lem : length (notes_of text) ≡ notes_length s.counted s.ports s.size count_start (lines_behind s text)
  notes_length_lem = ap length taken.notes_is ∙ sym (notes_length_is s.counted s.ports s.size (lines_behind s text) taken.few)

  abbrev counted : Lengths
  counted = record { mended = s.next + kept_length s.ports s.size (lines_behind s text); notes = told (notes_length s.counted s.ports s.size count_start (lines_behind s text)); answer = 0 }

  pub lengths_done : (r : Lengths) → r ≡ counted → r ≡ lengths_of text
  unfolding lengths_of
  lengths_done r h = h ∙ rw (taken_answer, mended_length, notes_length_lem) refl

  module _ (mended notes : List ℕ) (short : length notes < LARGEST) (r : Lengths) (h : r ≡ counted) where
    test_is : (eqb (length mended) r.mended && eqb (length notes) r.notes) ≡ (eqb (length mended) (length (mended_of text)) && eqb (length notes) (length (notes_of text)))
    test_is = rw (h, mended_length, notes_length_lem, told_length (length notes) (notes_length s.counted s.ports s.size count_start (lines_behind s text)) short) refl

    pub mend_other : (eqb (length mended) r.mended && eqb (length notes) r.notes) ≡ false
        → (9 ≡ mend_answer text (length mended) (length notes)) × (mended ≡ mended_left text mended notes) × (notes ≡ notes_left text mended notes)
    unfolding mend_answer mended_left notes_left
    mend_other t =
        let a : mend_answer text (length mended) (length notes) ≡ 9 = rw (taken_answer, sym test_is ∙ t) refl in
        (sym a, rw a refl, rw a refl)

    module _ (t : (eqb (length mended) r.mended && eqb (length notes) r.notes) ≡ true) where
      lengths_are : (eqb (length mended) (length (mended_of text)) && eqb (length notes) (length (notes_of text))) ≡ true
      lengths_are = sym test_is ∙ t

      mended_long : length mended ≡ length (mended_of text)
      mended_long = eqb-true (length mended) (length (mended_of text)) (and_left (eqb (length mended) (length (mended_of text))) (eqb (length notes) (length (notes_of text))) lengths_are)

      notes_long : length notes ≡ length (notes_of text)
      notes_long = eqb-true (length notes) (length (notes_of text)) (and_right (eqb (length mended) (length (mended_of text))) (eqb (length notes) (length (notes_of text))) lengths_are)

      -- what the first sweep asks
      pub copy_asked : (s.next ≤ length text) × (s.ports ≤ 64) × (length mended ≡ length (swept s.counted s.ports s.size (sweep_start (take s.next text)) (lines_behind s text)).written)
      copy_asked = (
        taken.within,
        taken.few,
        mended_long ∙ (mended_length ∙ sym (written_length s.counted s.ports s.size (sweep_start (take s.next text)) (lines_behind s text) ∙ ap (λ (n : ℕ). n + kept_length s.ports s.size (lines_behind s text)) front)),
      )

      module _ (new : List ℕ) (k : new ≡ sweep_end 64 (swept s.counted s.ports s.size (sweep_start (take s.next text)) (lines_behind s text))) where
        mended_is : new ≡ mended_of text
        mended_is = k ∙ (sweep_is s.counted s.ports s.size (lines_behind s text) taken.few (take s.next text) ∙ sym taken.mended_is)

        beside : notes_swept s.ports s.size new 2 s.next (lines_behind s text) ≡ notes_of text
        beside =
            ap (λ (x : List ℕ). notes_swept s.ports s.size x 2 s.next (lines_behind s text)) (mended_is ∙ taken.mended_is)
            ∙ (ap (λ (n : ℕ). notes_swept s.ports s.size (take s.next text ++ text_of (mended_lines s.size (judged s.counted s.ports s.size (lines_behind s text)))) 2 n (lines_behind s text)) (sym front)
            ∙ (noted_is s.counted s.ports s.size (take s.next text) (lines_behind s text) ∙ sym taken.notes_is))

        -- what the second sweep asks
        pub notes_asked : (s.next ≤ length text) × (s.ports ≤ 64) × (length notes ≡ length (notes_swept s.ports s.size new 2 s.next (lines_behind s text)))
        notes_asked = (taken.within, taken.few, rw beside notes_long)

        pub mend_done : (written : List ℕ) → written ≡ notes_swept s.ports s.size new 2 s.next (lines_behind s text)
            → (0 ≡ mend_answer text (length mended) (length notes)) × (new ≡ mended_left text mended notes) × (written ≡ notes_left text mended notes)
        unfolding mend_answer mended_left notes_left
        mend_done written w =
            let a : mend_answer text (length mended) (length notes) ≡ 0 = rw (taken_answer, lengths_are) refl in
            (sym a, rw a mended_is, rw a (w ∙ beside))
