-- The marks of a row by their bits: what marking, cutting and passing do to each.
use Rattle.std.specs.Prelude.{◌≡◌, ◌≢◌, true, false, ◌&&◌, ◌||◌, List, ltb, length, get_or, set, replicate}
use Rattle.std.proofs.Math.Path.{refl, sym}
use Rattle.std.proofs.Common.{ap, ◌∙◌, mod-lt, div-one, arith, length-set, get_or-set_other}
use Rattle.std.proofs.Math.Logic.{⊎_elim}
use Rattle.std.proofs.Math.Bool.{Bool, cond, and-false, and-true, or-false}
use Prim.Native.Nat.{ℕ, ◌+◌, ◌*◌, ◌/◌, ◌%◌, ◌^◌, ◌≤◌, ◌<◌}
use Rattle.std.proofs.Math.Nat.{mod-le, mod-mod, zero-div}
use Rattle.std.proofs.Math.Dec.{eqb}
use Rattle.std.proofs.lemmas.List.{get_or-replicate}
use Rattle.std.proofs.Math.ListN.{get_or-eq_default}
use Rattle.std.proofs.Math.Seq.{get_or-set_same}
use borrow.Author.Tests.{eq-eqb, ne_eqb, lt-ltb, le-ltb}
use Rattle.ground.specs.Bits.{odd}
use Rattle.ground.specs.Table.{get_or_tabulate}
use Rattle.ground.specs.Truth.{le_or_lt, eq_or_ne}
use Rattle.store.specs.Laws.Bytes.{marked_fits, marked_bit, cut_bit, passed_bit}
use Rattle.store.specs.Marks.{Sixteen, cut_byte, cut_from, first_mark, mark_in, marked_at, marked_byte, passed_byte, passed_marks}

-- there are 128 marks
pub mark_beyond : (row : List ℕ) (j : ℕ) → length row ≡ 16 → 128 ≤ j → mark_in row j ≡ false
unfolding mark_in
mark_beyond row j l h =
    let b : 16 ≤ j / 8 = omega arith in
    rw (get_or-eq_default row 0 {n = j / 8} (omega arith), zero-div (2 ^ (j % 8)))

-- the oldest epoch's mark
pub first_mark_lem : (row : List ℕ) → first_mark row ≡ mark_in row 0
unfolding first_mark mark_in
first_mark_lem row = rw (div-one (get_or row 0 0))

-- no mark
zero_at_lem : (k : ℕ) → get_or (replicate {A = ℕ} 16 0) k 0 ≡ 0
zero_at_lem k =
    ⊎_elim (λ (g : 16 ≤ k). get_or-eq_default (replicate {A = ℕ} 16 0) 0 {n = k} g) (λ (g : k < 16). get_or-replicate 16 k 0 0 g) (le_or_lt 16 k)

pub mark_none : (i : ℕ) → mark_in (replicate 16 0) i ≡ false
unfolding mark_in
mark_none i = rw (zero_at_lem (i / 8), zero-div (2 ^ (i % 8)))

pub sixteen_none : Sixteen (replicate 16 0)
sixteen_none = record { len = refl; bytes = λ k h. rw (zero_at_lem k) (omega arith) }

marked_byte_lt : (b i : ℕ) → b < 256 → marked_byte b i < 256
unfolding marked_byte
marked_byte_lt b i h = go (odd (b / 2 ^ (i % 8))) refl
  where
    go : (t : Bool) → odd (b / 2 ^ (i % 8)) ≡ t → cond t b (b + 2 ^ (i % 8)) < 256
    go true e = h
    go false e = marked_fits b (i % 8) h (mod-lt i (omega arith)) e

cut_byte_lt : (b k i : ℕ) → b < 256 → cut_byte b k i < 256
unfolding cut_byte
cut_byte_lt b k i h = go (ltb k (i / 8)) (ltb (i / 8) k)
  where
    go : (t u : Bool) → cond t b (cond u 0 (b % 2 ^ (i % 8))) < 256
    go true u = h
    go false true = omega arith
    go false false = let m = mod-le b (2 ^ (i % 8)) in omega arith

module _ (row : List ℕ) (h : Sixteen row) where
  byte : (j : ℕ) → j < 128 → get_or row (j / 8) 0 < 256
  byte j b = h.bytes (j / 8) (omega arith)

  -- with epoch i marked too
  marked_within : (i : ℕ) → i < 128 → marked_at row i ≡ set row (i / 8) (marked_byte (get_or row (i / 8) 0) i)
  unfolding marked_at
  marked_within i b = rw (lt-ltb (i / 8) 16 (omega arith))

  marked_beyond : (i : ℕ) → 128 ≤ i → marked_at row i ≡ row
  unfolding marked_at
  marked_beyond i b = rw (le-ltb (i / 8) 16 (omega arith))

  -- in the same byte
  marked_here : (i j : ℕ) → i < 128 → j / 8 ≡ i / 8 → mark_in (set row (i / 8) (marked_byte (get_or row (i / 8) 0) i)) j ≡ mark_in row j || eqb j i
  unfolding mark_in marked_byte
  marked_here i j b e =
      let v : ℕ = marked_byte (get_or row (i / 8) 0) i in
      let t : eqb (j % 8) (i % 8) ≡ eqb j i = ⊎_elim (λ (g : j ≡ i). eq-eqb (j % 8) (i % 8) (ap (λ (n : ℕ). n % 8) g) ∙ sym (eq-eqb j i g)) (λ (g : j ≢ i). ne_eqb (j % 8) (i % 8) (λ (q : j % 8 ≡ i % 8). g (omega arith)) ∙ sym (ne_eqb j i g)) (eq_or_ne j i) in
      rw (e, get_or-set_same row (i / 8) v 0 (omega (arith, h.len)))
      (marked_bit (get_or row (i / 8) 0) (i % 8) (j % 8) (byte i b) (mod-lt i (omega arith)) (mod-lt j (omega arith)) ∙ rw t)

  marked_there : (i j : ℕ) → j / 8 ≢ i / 8 → mark_in (set row (i / 8) (marked_byte (get_or row (i / 8) 0) i)) j ≡ mark_in row j || eqb j i
  unfolding mark_in
  marked_there i j d =
      rw (get_or-set_other row (i / 8) (j / 8) (marked_byte (get_or row (i / 8) 0) i) 0 d, ne_eqb j i (λ (q : j ≡ i). d (ap (λ (n : ℕ). n / 8) q)))
      (sym (or-false (odd (get_or row (j / 8) 0 / 2 ^ (j % 8)))))

  pub mark_marked : (i j : ℕ) → j < 128 → mark_in (marked_at row i) j ≡ mark_in row j || eqb j i
  mark_marked i j b =
      ⊎_elim
      (λ (g : 128 ≤ i). rw (marked_beyond i g, ne_eqb j i (λ (q : j ≡ i). omega arith)) (sym (or-false (mark_in row j))))
      (λ (g : i < 128). rw (marked_within i g) (⊎_elim (λ (e : j / 8 ≡ i / 8). marked_here i j g e) (λ (d : j / 8 ≢ i / 8). marked_there i j d) (eq_or_ne (j / 8) (i / 8))))
      (le_or_lt 128 i)

  -- without epoch i and all later ones
  cut_within : (i j : ℕ) → j < 128 → get_or (cut_from row i) (j / 8) 0 ≡ cut_byte (get_or row (j / 8) 0) (j / 8) i
  unfolding cut_from
  cut_within i j b = get_or_tabulate 16 (λ k. cut_byte (get_or row k 0) k i) (j / 8) 0 (omega arith)

  cut_bits : (i j : ℕ) → j < 128 → odd (cut_byte (get_or row (j / 8) 0) (j / 8) i / 2 ^ (j % 8)) ≡ odd (get_or row (j / 8) 0 / 2 ^ (j % 8)) && ltb j i
  unfolding cut_byte
  cut_bits i j b = ⊎_elim later (λ (g : j / 8 < i / 8). rw (lt-ltb (j / 8) (i / 8) g, lt-ltb j i (omega arith)) (sym (and-true bit))) (le_or_lt (i / 8) (j / 8))
    where
      bit : Bool
      bit = odd (get_or row (j / 8) 0 / 2 ^ (j % 8))

      -- in the byte of bit i
      same : j / 8 ≡ i / 8 → ltb (j % 8) (i % 8) ≡ ltb j i
      same e =
          ⊎_elim (λ (g : i ≤ j). le-ltb (j % 8) (i % 8) (omega arith) ∙ sym (le-ltb j i g)) (λ (g : j < i). lt-ltb (j % 8) (i % 8) (omega arith) ∙ sym (lt-ltb j i g))
          (le_or_lt i j)

      later : i / 8 ≤ j / 8 → odd (cond (ltb (j / 8) (i / 8)) (get_or row (j / 8) 0) (cond (ltb (i / 8) (j / 8)) 0 (get_or row (j / 8) 0 % 2 ^ (i % 8))) / 2 ^ (j % 8)) ≡ bit && ltb j i
      later g =
          rw (le-ltb (j / 8) (i / 8) g)
          (⊎_elim
          (λ (q : j / 8 ≤ i / 8).
          rw (le-ltb (i / 8) (j / 8) q)
          (cut_bit (get_or row (j / 8) 0) (i % 8) (j % 8) (byte j b) (mod-lt i (omega arith)) (mod-lt j (omega arith)) ∙ rw (same (omega arith))))
          (λ (q : i / 8 < j / 8). rw (lt-ltb (i / 8) (j / 8) q, zero-div (2 ^ (j % 8)), le-ltb j i (omega arith)) (sym (and-false bit)))
          (le_or_lt (j / 8) (i / 8)))

  length_cut : (i : ℕ) → length (cut_from row i) ≡ 16
  unfolding cut_from
  length_cut i = refl

  pub mark_cut : (i j : ℕ) → mark_in (cut_from row i) j ≡ mark_in row j && ltb j i
  unfolding mark_in
  mark_cut i j =
      ⊎_elim (λ (g : 128 ≤ j). mark_beyond (cut_from row i) j (length_cut i) g ∙ sym (rw (mark_beyond row j h.len g)))
      (λ (g : j < 128). rw (cut_within i j g) (cut_bits i j g)) (le_or_lt 128 j)

  -- as the window passes its oldest epoch; past the row's end stands 0
  passed_at_lem : (k : ℕ) → k < 16 → get_or (passed_marks row) k 0 ≡ get_or row k 0 / 2 + get_or row (k + 1) 0 % 2 * 128
  unfolding passed_marks passed_byte
  passed_at_lem k b =
      get_or_tabulate 16 (λ n. cond (ltb n 15) (passed_byte (get_or row n 0) (get_or row (n + 1) 0)) (get_or row n 0 / 2)) k 0 b
      ∙ ⊎_elim (λ (g : 15 ≤ k). rw (le-ltb k 15 g, get_or-eq_default row 0 {n = k + 1} (omega (arith, h.len))) (omega arith)) (λ (g : k < 15). rw (lt-ltb k 15 g)) (le_or_lt 15 k)

  passed_bits : (j : ℕ) → j < 128
      → odd ((get_or row (j / 8) 0 / 2 + get_or row (j / 8 + 1) 0 % 2 * 128) / 2 ^ (j % 8)) ≡ odd (get_or row ((j + 1) / 8) 0 / 2 ^ ((j + 1) % 8))
  passed_bits j b =
      passed_bit (get_or row (j / 8) 0) (get_or row (j / 8 + 1) 0 % 2) (j % 8) (byte j b) (mod-lt (get_or row (j / 8 + 1) 0) (omega arith)) (mod-lt j (omega arith))
      ∙ ⊎_elim last inner (le_or_lt 7 (j % 8))
    where
      last : 7 ≤ j % 8 → cond (ltb (j % 8) 7) (odd (get_or row (j / 8) 0 / 2 ^ (j % 8 + 1))) (odd (get_or row (j / 8 + 1) 0 % 2)) ≡ odd (get_or row ((j + 1) / 8) 0 / 2 ^ ((j + 1) % 8))
      last g =
          let q : (j + 1) / 8 ≡ j / 8 + 1 = omega arith in
          let r : (j + 1) % 8 ≡ 0 = omega arith in
          rw (le-ltb (j % 8) 7 g, q, r, mod-mod (get_or row (j / 8 + 1) 0) 2, div-one (get_or row (j / 8 + 1) 0))

      inner : j % 8 < 7 → cond (ltb (j % 8) 7) (odd (get_or row (j / 8) 0 / 2 ^ (j % 8 + 1))) (odd (get_or row (j / 8 + 1) 0 % 2)) ≡ odd (get_or row ((j + 1) / 8) 0 / 2 ^ ((j + 1) % 8))
      inner g =
          let q : (j + 1) / 8 ≡ j / 8 = omega arith in
          let r : (j + 1) % 8 ≡ j % 8 + 1 = omega arith in
          rw (lt-ltb (j % 8) 7 g, q, r)

  length_passed : length (passed_marks row) ≡ 16
  unfolding passed_marks
  length_passed = refl

  pub mark_passed : (j : ℕ) → mark_in (passed_marks row) j ≡ mark_in row (j + 1)
  unfolding mark_in
  mark_passed j =
      ⊎_elim (λ (g : 128 ≤ j). mark_beyond (passed_marks row) j length_passed g ∙ sym (mark_beyond row (j + 1) h.len (omega arith)))
      (λ (g : j < 128). rw (passed_at_lem (j / 8) (omega arith)) (passed_bits j g)) (le_or_lt 128 j)

  -- they stay rows of sixteen bytes
  pub sixteen_marked : (i : ℕ) → Sixteen (marked_at row i)
  sixteen_marked i = ⊎_elim (λ (g : 128 ≤ i). rw (marked_beyond i g) h) (λ (g : i < 128). rw (marked_within i g) (whole g)) (le_or_lt 128 i)
    where
      fits : i < 128 → marked_byte (get_or row (i / 8) 0) i < 256
      fits b = marked_byte_lt (get_or row (i / 8) 0) i (byte i b)

      whole : i < 128 → Sixteen (set row (i / 8) (marked_byte (get_or row (i / 8) 0) i))
      whole b =
          record {
            len = length-set row (i / 8) (marked_byte (get_or row (i / 8) 0) i) ∙ h.len;
            bytes = λ k l.
                ⊎_elim (λ (e : k ≡ i / 8). rw (e, get_or-set_same row (i / 8) (marked_byte (get_or row (i / 8) 0) i) 0 (omega (arith, h.len))) (fits b))
                (λ (d : k ≢ i / 8). rw (get_or-set_other row (i / 8) k (marked_byte (get_or row (i / 8) 0) i) 0 d) (h.bytes k l)) (eq_or_ne k (i / 8));
          }

  pub sixteen_cut : (i : ℕ) → Sixteen (cut_from row i)
  unfolding cut_from
  sixteen_cut i =
      record {
        len = length_cut i;
        bytes = λ k l. rw (get_or_tabulate 16 (λ n. cut_byte (get_or row n 0) n i) k 0 l) (cut_byte_lt (get_or row k 0) k i (h.bytes k l));
      }

  pub sixteen_passed : Sixteen (passed_marks row)
  sixteen_passed = record { len = length_passed; bytes = λ k l. rw (passed_at_lem k l) (let b = h.bytes k l in omega arith) }
