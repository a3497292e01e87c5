-- What the readers of fields find.
use Rattle.std.proofs.Common.{◌≡◌, refl, sym, ap, ◌∙◌, Bool, true, false, cond, ◌&&◌, List, [], ◌∷◌, ◌++◌, ℕ, zero, suc, ◌+◌, ◌*◌, ◌^◌, ◌≤◌, ◌<◌, Option, Some, None, unwrap_or, eqb, ltb, length, take, drop, get_or, arith, add-one, drop_of_length-le, eq-eqb, ne_eqb, ltb-false, ltb-true, pow-suc, take-suc}
use Rattle.std.specs.List.{position, position_or_len}
use Rattle.std.proofs.Math.Seq.{slice}
use mathlib.Core.Bool.{and_assoc, and-true}
use Rattle.std.proofs.lemmas.List.Recursion.{is_position_or_len}
use lib.Pointwise.{pointwise}
use native.Mathlib.Nat.{mul-le-mul_right, pow-le-pow_right}
use Rattle.ground.specs.Finding.{index_after, index_of}
use Rattle.ground.specs.Truth.{and_left, and_right}
use Rattle.text.specs.Fields.{are_digits, digit_of, same_bytes, value_of}
use Rattle.text.specs.Laws.Parted.{index_le, parted_more, parted_none}
use Rattle.text.specs.Laws.Slices.{slice_more}
use Rattle.text.specs.Text.{TAB, fields_of, first_part, parted}

-- texts compared, as the code does it
pub same_pointwise : (l m : List ℕ) → pointwise eqb l m ≡ same_bytes l m
same_pointwise [] [] = refl
same_pointwise [] (b ∷ m) = refl
same_pointwise (a ∷ l) [] = refl
same_pointwise (a ∷ l) (b ∷ m) = ap (λ (t : Bool). eqb a b && t) (same_pointwise l m)

-- the first mark, or the end
index_more : (m b : ℕ) (l : List ℕ) → index_of m (b ∷ l) ≡ cond (eqb b m) 0 (1 + index_of m l)
unfolding index_of index_after
index_more m b l = elim (eqb b m) as (λ t. index_after t (index_of m l) ≡ cond t 0 (1 + index_of m l)) [ true ↦ refl | false ↦ omega arith ]

pub index_position : (m : ℕ) (l : List ℕ) → unwrap_or (position (λ b. eqb b m) l) (length l) ≡ index_of m l
unfolding index_of
index_position m l =
    let e = is_position_or_len (index_of m) (λ b. eqb b m) refl (index_more m) l in
    rw (← e) (either (ltb (index_of m l) (length l)) refl (index_le m l))
  where
    either : (t : Bool) → ltb (index_of m l) (length l) ≡ t → index_of m l ≤ length l → unwrap_or (cond t (Some (index_of m l)) None) (length l) ≡ index_of m l
    either true e h = refl
    either false e h = let k = ltb-false (index_of m l) (length l) e in omega arith

-- the first mark of a part, a byte further on
module _ (l : List ℕ) (limit end : ℕ) (e : end ≡ length (take limit l)) (m i : ℕ) where
  pub mark_here : i < end → get_or l i 0 ≡ m → index_of m (slice i limit l) ≡ 0
  unfolding index_of index_after
  mark_here h s = rw (slice_more l limit end e i h, eq-eqb (get_or l i 0) m s) refl

  pub mark_on : i < end → (get_or l i 0 ≡ m → ⊥) → index_of m (slice i limit l) ≡ suc (index_of m (slice (i + 1) limit l))
  unfolding index_of index_after
  mark_on h d = rw (slice_more l limit end e i h, ne_eqb (get_or l i 0) m d) refl

  pub mark_none : end ≤ i → index_of m (slice i limit l) ≡ 0
  unfolding index_of
  mark_none h = rw (drop_of_length-le (take limit l) {i = i} (omega arith)) refl

-- digits, one more
digits_snoc : (base : ℕ) (l : List ℕ) (b : ℕ) → are_digits base (l ++ (b ∷ [])) ≡ (are_digits base l && ltb (digit_of b) base)
digits_snoc base [] b = and-true (ltb (digit_of b) base)
digits_snoc base (x ∷ l) b = ap (λ (t : Bool). ltb (digit_of x) base && t) (digits_snoc base l b) ∙ sym (and_assoc (ltb (digit_of x) base) (are_digits base l) (ltb (digit_of b) base))

value_snoc : (base n : ℕ) (l : List ℕ) (b : ℕ) → value_of base n (l ++ (b ∷ [])) ≡ value_of base n l * base + digit_of b
value_snoc base n [] b = refl
value_snoc base n (x ∷ l) b = value_snoc base (n * base + digit_of x) l b

pub digit_at : (base : ℕ) (l : List ℕ) (i : ℕ) → are_digits base l ≡ true → i < length l → digit_of (get_or l i 0) < base
digit_at base [] i t h = absurd (omega arith)
digit_at base (x ∷ l) zero t h = ltb-true (digit_of x) base (and_left (ltb (digit_of x) base) (are_digits base l) t)
digit_at base (x ∷ l) (suc i) t h = digit_at base l i (and_right (ltb (digit_of x) base) (are_digits base l) t) (omega arith)

module _ (base : ℕ) (l : List ℕ) (i : ℕ) (h : i < length l) where
  pub digits_turn : (r : Bool) → r ≡ are_digits base (take i l) → (d : Bool) → d ≡ ltb (digit_of (get_or l i 0)) base → (r && d) ≡ are_digits base (take (i + 1) l)
  digits_turn r k d e = rw (k, e, add-one, take-suc l i 0 h) (sym (digits_snoc base (take i l) (get_or l i 0)))

  pub value_turn : (v : ℕ) → v ≡ value_of base 0 (take i l) → (d : ℕ) → d ≡ digit_of (get_or l i 0) → v * base + d ≡ value_of base 0 (take (i + 1) l)
  value_turn v k d e = rw (k, e, add-one, take-suc l i 0 h) (sym (value_snoc base 0 (take i l) (get_or l i 0)))

-- a value of i digits, and one digit more, below a power of the base that is no larger than most
module _ (base i v d n most : ℕ) (h : v < base ^ i) (k : d < base) (j : i < n) (m : base ^ n ≤ most) where
  pub value_below : v * base + d < base ^ (i + 1)
  value_below =
      let a : (v + 1) * base ≤ base ^ i * base = mul-le-mul_right base (omega arith) in
      let b : (v + 1) * base ≡ v * base + base = omega arith in
      rw (add-one, pow-suc) (omega arith)

  pub value_fits : v * base + d < most
  value_fits =
      let a = value_below in
      let b : base ^ (i + 1) ≤ base ^ n = pow-le-pow_right (omega arith) (omega arith) in
      omega arith

  pub product_fits : v * base < most
  product_fits = let a = value_fits in omega arith

pub power_le : (base n most : ℕ) → 0 < base → n ≤ most → base ^ n ≤ base ^ most
power_le base n most h k = pow-le-pow_right h k

-- the first field of a line
tab_at : (l : List ℕ) → position_or_len (λ b. eqb b TAB) l ≡ index_of TAB l
unfolding index_of
tab_at l = sym (is_position_or_len (index_of TAB) (λ b. eqb b TAB) refl (index_more TAB) l)

pub field_found : (l : List ℕ) (i : ℕ) → position (λ b. eqb b TAB) l ≡ Some i
    → (i < length l) × (first_part l ≡ Some (take i l, drop (i + 1) l)) × (fields_of l ≡ take i l ∷ fields_of (drop (i + 1) l))
unfolding fields_of first_part
field_found l i e = go (ltb (index_of TAB l) (length l)) refl (rw (tab_at l) at e)
  where
    go : (t : Bool) → ltb (index_of TAB l) (length l) ≡ t → cond t (Some (index_of TAB l)) None ≡ Some i
        → (i < length l) × (cond {A = Option (List ℕ × List ℕ)} t (Some (take (index_of TAB l) l, drop (index_of TAB l + 1) l)) None ≡ Some (take i l, drop (i + 1) l)) × (parted TAB ([] ∷ []) l ≡ take i l ∷ parted TAB ([] ∷ []) (drop (i + 1) l))
    go true t k =
        let s : index_of TAB l ≡ i = cc in
        let h = ltb-true (index_of TAB l) (length l) t in
        rw (← s) (h, refl, rw add-one (parted_more TAB ([] ∷ []) l h))
    go false t k = absurd (cc)

pub field_alone : (l : List ℕ) → position (λ b. eqb b TAB) l ≡ None → (first_part l ≡ None) × (fields_of l ≡ l ∷ [])
unfolding fields_of first_part
field_alone l e = go (ltb (index_of TAB l) (length l)) refl (rw (tab_at l) at e) (index_le TAB l)
  where
    go : (t : Bool) → ltb (index_of TAB l) (length l) ≡ t → cond t (Some (index_of TAB l)) None ≡ None → index_of TAB l ≤ length l
        → (cond {A = Option (List ℕ × List ℕ)} t (Some (take (index_of TAB l) l, drop (index_of TAB l + 1) l)) None ≡ None) × (parted TAB ([] ∷ []) l ≡ l ∷ [])
    go true t k h = absurd (cc)
    go false t k h = let n = ltb-false (index_of TAB l) (length l) t in (refl, parted_none TAB l (omega arith))
