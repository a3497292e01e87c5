-- What is left of a text from a place on, its first line, and that line's fields.
use Rattle.std.specs.Prelude.{◌≡◌, refl, Bool, true, false, cond, List, ℕ, ◌+◌, ◌-◌, ◌≤◌, ◌<◌, eqb, ltb, drop, take}
use Rattle.std.proofs.Common.{sym, ◌∙◌}
use native.Mathlib.Omega.{arith}
use Rattle.std.proofs.Math.ListN.{length, length-drop}
use Rattle.std.proofs.Math.Seq.{slice, length-slice, take-length}
use borrow.Author.Tests.{eq-eqb, le-ltb, lt-ltb, ltb-true, ne_eqb}
use Rattle.ground.specs.Finding.{index_of}
use Rattle.recording.specs.declared.line.Found.{Found}
use Rattle.recording.specs.declared.line.Found.TheVariants.{Nothing, Open, TooLong, Ends}
use Rattle.recording.specs.declared.record.Record.{Record}
use Rattle.recording.specs.Line.{MOST, first_line, found_of}
use Rattle.recording.specs.Opening.{line_opening, opening_in}
use Rattle.recording.specs.Record.{line_record, record_by, record_in}
use Rattle.text.specs.Laws.Slices.{take_slice}
use Rattle.text.specs.Text.{LINE-END, fields_of}

rest_slice : (l : List ℕ) (at : ℕ) → slice at (length l) l ≡ drop at l
rest_slice l at = rw take-length

-- the ways out of finding a line's end
module _ (l : List ℕ) (at : ℕ) where
  pub found_nothing : length l ≤ at → Nothing ≡ found_of at (drop at l)
  unfolding found_of
  found_nothing h = let n = length-drop at l in rw (eq-eqb (length (drop at l)) 0 (omega arith))

  module _ (h : at < length l) (end : ℕ) (e : end ≡ at + index_of LINE-END (slice at (length l) l)) where
    end_is : end ≡ at + index_of LINE-END (drop at l)
    end_is = rw (rest_slice l at) at e

    some : eqb (length (drop at l)) 0 ≡ false
    some = let n = length-drop at l in ne_eqb (length (drop at l)) 0 (λ z. omega arith)

    pub found_ends : end < length l → Ends end ≡ found_of at (drop at l)
    unfolding found_of
    found_ends k =
        let n = length-drop at l in
        let s = end_is in
        rw (some, lt-ltb (index_of LINE-END (drop at l)) (length (drop at l)) (omega arith), ← end_is)

    module _ (k : length l ≤ end) where
      none : ltb (index_of LINE-END (drop at l)) (length (drop at l)) ≡ false
      none = let n = length-drop at l in let s = end_is in le-ltb (index_of LINE-END (drop at l)) (length (drop at l)) (omega arith)

      pub found_long : MOST < length l - at → TooLong ≡ found_of at (drop at l)
      unfolding found_of
      found_long m = let n = length-drop at l in rw (some, none, n, lt-ltb MOST (length l - at) m)

      pub found_open : length l - at ≤ MOST → Open ≡ found_of at (drop at l)
      unfolding found_of
      found_open m = let n = length-drop at l in rw (some, none, n, le-ltb MOST (length l - at) m)

-- a line that ends lies in the text
pub ends_within : (l : List ℕ) (at end : ℕ) → found_of at (drop at l) ≡ Ends end → (at ≤ end) × (end < length l) × (first_line (drop at l) ≡ slice at end l)
unfolding found_of
ends_within l at end f = go (eqb (length (drop at l)) 0) (ltb (index_of LINE-END (drop at l)) (length (drop at l))) (ltb MOST (length (drop at l))) refl f
  where
    go : (a b c : Bool) → ltb (index_of LINE-END (drop at l)) (length (drop at l)) ≡ b → cond a Nothing (cond b (Ends (at + index_of LINE-END (drop at l))) (cond c TooLong Open)) ≡ Ends end
        → (at ≤ end) × (end < length l) × (first_line (drop at l) ≡ slice at end l)
    go true b c e k = let z : ◌≡◌ {A = ℕ} 0 1 = cc in absurd (omega arith)
    go false true c e k =
        let s : at + index_of LINE-END (drop at l) ≡ end = cc in
        let n = length-drop at l in
        let m = ltb-true (index_of LINE-END (drop at l)) (length (drop at l)) e in
        let t : take (index_of LINE-END (drop at l)) (slice at (length l) l) ≡ slice at (at + index_of LINE-END (drop at l)) l = take_slice at (index_of LINE-END (drop at l)) (length l) l (omega arith) in
        (omega arith, omega arith, rw (rest_slice l at, s) at t)
    go false false true e k = let z : ◌≡◌ {A = ℕ} 0 1 = cc in absurd (omega arith)
    go false false false e k = let z : ◌≡◌ {A = ℕ} 0 1 = cc in absurd (omega arith)

-- a line that is open has a byte
pub open_some : (l : List ℕ) (at : ℕ) → found_of at (drop at l) ≡ Open → at < length l
unfolding found_of
open_some l at f = go (eqb (length (drop at l)) 0) (cond (ltb (index_of LINE-END (drop at l)) (length (drop at l))) (Ends (at + index_of LINE-END (drop at l))) (cond (ltb MOST (length (drop at l))) TooLong Open)) refl f
  where
    go : (a : Bool) (x : Found) → eqb (length (drop at l)) 0 ≡ a → cond a Nothing x ≡ Open → at < length l
    go true x e k = let z : ◌≡◌ {A = ℕ} 0 1 = cc in absurd (omega arith)
    go false x e k = let n = length-drop at l in let d = borrow.Author.Tests.eqb-false (length (drop at l)) 0 e in past (length l) at (λ z. d (omega arith))
      where
        past : (m n : ℕ) → (m ≤ n → ⊥) → n < m
        past m n d = omega arith

-- a record of a line that ends
module _ (ports size : ℕ) (l : List ℕ) (at : ℕ) where
  pub record_ends : (f : Found) → f ≡ found_of at (drop at l) → (end : ℕ) → f ≡ Ends end → (r : Record) → r ≡ line_record ports size at (end + 1) (slice at end l) → r ≡ record_in ports size at (drop at l)
  unfolding record_in
  record_ends f e end k r h = rw (sym e ∙ k, (ends_within l at end (sym e ∙ k)).2) h

-- a first line that ends, and one that is the last
module _ (l : List ℕ) (at : ℕ) (last : Bool) where
  pub opening_last : (f : Found) → f ≡ found_of at (drop at l) → f ≡ Open → last ≡ true → line_opening (length l) (slice at (length l) l) ≡ opening_in at last (drop at l)
  unfolding opening_in
  opening_last f e k t =
      let n = length-drop at l in
      let m = open_some l at (sym e ∙ k) in
      let s : at + length (drop at l) ≡ length l = omega arith in
      rw (sym e ∙ k, t, s, ← rest_slice l at)

  pub opening_ends : (f : Found) → f ≡ found_of at (drop at l) → (end : ℕ) → f ≡ Ends end → line_opening (end + 1) (slice at end l) ≡ opening_in at last (drop at l)
  unfolding opening_in
  opening_ends f e end k = rw (sym e ∙ k, (ends_within l at end (sym e ∙ k)).2)

-- a line by its length
module _ (ports size : ℕ) (l : List ℕ) (at end next : ℕ) (h : at ≤ end) (k : end ≤ length l) where
  pub line_short : end - at ≤ MOST → (r : Record) → r ≡ record_by ports size end next (fields_of (slice at end l)) → r ≡ line_record ports size at next (slice at end l)
  unfolding line_record
  line_short m r e =
      let n = length-slice at end l k in
      let s : at + (end - at) ≡ end = omega arith in
      rw (n, borrow.Author.Tests.le-leb (end - at) MOST m, s) e
