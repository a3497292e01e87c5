-- The lengths of a mended recording as the C call tells them, from what the crate's own call gives.
use mathlib.Core.Path.{◌≡◌, refl, sym, ap, ◌∙◌}
use mathlib.Core.Bool.{Bool, true, false, cond}
use mathlib.Core.List.{List}
use Prim.Native.Nat.{ℕ}
use lib.Dec.{eqb}
use lib.ListN.{length}
use borrow.Author.Tests.{eq-eqb, eqb-true, ne_eqb}
use Rattle.c_recordings.specs.Mends.{lengths_answer_c, mended_length_c, notes_length_c}
use Rattle.mending.specs.declared.measuring.Lengths.{Lengths}
use Rattle.mending.specs.Mending.{mended_of, notes_of, read_answer}
use Rattle.mending.specs.Told.{lengths_of, told}

answer_is : (text : List ℕ) → (lengths_of text).answer ≡ read_answer text
unfolding lengths_of
answer_is text = go (eqb (read_answer text) 0) refl
  where
    go : (t : Bool) → eqb (read_answer text) 0 ≡ t
        → (cond {A = Lengths} t (record { mended = length (mended_of text); notes = told (length (notes_of text)); answer = 0 }) (record { mended = 0; notes = 0; answer = read_answer text })).answer ≡ read_answer text
    go true t = sym (eqb-true (read_answer text) 0 t)
    go false t = refl

module _ (text : List ℕ) (l : Lengths) (e : l ≡ lengths_of text) (m n : ℕ) where
  told_answer : l.answer ≡ read_answer text
  told_answer = ap (λ (x : Lengths). x.answer) e ∙ answer_is text

  pub lengths_refused : (l.answer ≡ 0 → ⊥) → (l.answer ≡ lengths_answer_c text) × (m ≡ mended_length_c text m) × (n ≡ notes_length_c text n)
  unfolding mended_length_c notes_length_c
  lengths_refused z =
      let f : eqb (read_answer text) 0 ≡ false = ne_eqb (read_answer text) 0 (λ (a : read_answer text ≡ 0). z (told_answer ∙ a)) in
      (told_answer, rw f refl, rw f refl)

  pub lengths_done : l.answer ≡ 0 → (0 ≡ lengths_answer_c text) × (l.mended ≡ mended_length_c text m) × (l.notes ≡ notes_length_c text n)
  unfolding mended_length_c notes_length_c lengths_of
  lengths_done z =
      let a : read_answer text ≡ 0 = sym told_answer ∙ z in
      let f : eqb (read_answer text) 0 ≡ true = eq-eqb (read_answer text) 0 a in
      (sym a, rw (f, e, f) refl, rw (f, e, f) refl)
