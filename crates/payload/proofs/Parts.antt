-- A part of a slice: what is read of it, and what a write to it leaves of the whole.
use Rattle.std.specs.Prelude.{◌≡◌, refl, List, ℕ, ◌+◌, ◌-◌, ◌≤◌, ◌<◌, length, get_or, drop, slice_range}
use Rattle.std.proofs.Common.{sym, ap, ◌∙◌, arith, rules, ⊎_elim, ext_get_or, get_or-take, get_or-drop, length-drop, length-take}
use Rattle.std.proofs.lemmas.List.{places}
use borrow.Rule.Slice.PartMut.{put_mid}
use Rattle.ground.specs.Drawn.{fill_at, fill_at_ext, get_or_after, get_or_before, get_or_fill_at, length_fill_at}
use Rattle.ground.specs.Truth.{le_or_lt}

module _ (a n e : ℕ) (xs : List ℕ) (ends : e ≡ a + n) (fits : e ≤ length xs) where
  -- what is read
  pub part_length : length (slice_range xs a e) ≡ n
  part_length = simp (length-take, length-drop) (omega arith)

  pub part_at : (k : ℕ) → k < n → get_or (slice_range xs a e) k 0 ≡ get_or xs (a + k) 0
  part_at k b = get_or-take (e - a) (drop a xs) k 0 (omega arith) ∙ get_or-drop a xs k 0

  module _ (ys : List ℕ) (long : length ys ≡ n) where
    put_length : length (put_mid a (e - a) xs ys) ≡ length xs
    put_length = search (rules, places)

    before : (k : ℕ) → k < a → get_or (put_mid a (e - a) xs ys) k 0 ≡ get_or xs k 0
    before k h = search (rules, places)

    within : (k : ℕ) → k < n → get_or (put_mid a (e - a) xs ys) (a + k) 0 ≡ get_or ys k 0
    within k h = search (rules, places)

    after : (k : ℕ) → a + n ≤ k → get_or (put_mid a (e - a) xs ys) k 0 ≡ get_or xs k 0
    after k h = search (rules, places)

    same : (k : ℕ) → get_or (put_mid a (e - a) xs ys) k 0 ≡ get_or (fill_at a n (λ j. get_or ys j 0) xs) k 0
    same k =
        ⊎_elim (λ (h : a ≤ k). from k h) (λ (h : k < a). before k h ∙ sym (get_or_before a n (λ j. get_or ys j 0) xs k 0 h)) (le_or_lt a k)
      where
        inside : (j : ℕ) → j < n → get_or (put_mid a (e - a) xs ys) (a + j) 0 ≡ get_or (fill_at a n (λ j. get_or ys j 0) xs) (a + j) 0
        inside j h = within j h ∙ sym (get_or_fill_at a n (λ i. get_or ys i 0) xs j 0 h (omega arith))

        from : (k : ℕ) → a ≤ k → get_or (put_mid a (e - a) xs ys) k 0 ≡ get_or (fill_at a n (λ j. get_or ys j 0) xs) k 0
        from k l =
            ⊎_elim (λ (h : a + n ≤ k). after k h ∙ sym (get_or_after a n (λ j. get_or ys j 0) xs k 0 h))
            (λ (h : k < a + n). let i : a + (k - a) ≡ k = omega arith in rw i at (inside (k - a) (omega arith))) (le_or_lt (a + n) k)

    -- what a write leaves
    pub part_put : put_mid a (e - a) xs ys ≡ fill_at a n (λ j. get_or ys j 0) xs
    part_put =
        ext_get_or 0 (put_mid a (e - a) xs ys) (fill_at a n (λ j. get_or ys j 0) xs)
        (put_length ∙ sym (length_fill_at a n (λ j. get_or ys j 0) xs)) (λ k b. same k)

-- a part copied to another place
pub part_copied : (at : ℕ) (from : List ℕ) (place n : ℕ) (to ys : List ℕ) → at + n ≤ length from → place + n ≤ length to → ys ≡ slice_range from at (at + n)
    → put_mid place (place + n - place) to ys ≡ fill_at place n (λ j. get_or from (at + j) 0) to
part_copied at from place n to ys inside fits e =
    part_put place n (place + n) to refl fits ys (ap length e ∙ part_length at n (at + n) from refl inside)
    ∙ fill_at_ext place n (λ j. get_or ys j 0) (λ j. get_or from (at + j) 0) to
    (λ j b. ap (λ (l : List ℕ). get_or l j 0) e ∙ part_at at n (at + n) from refl inside j b)
