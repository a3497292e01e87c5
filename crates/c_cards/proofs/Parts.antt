-- A part of a state, `&state[a..e]`, is the table of its bytes; and a part that was lent and written anew is its bytes from its place on.
use mathlib.Core.Path.{◌≡◌, refl, ◌∙◌, sym, ap}
use mathlib.Core.Logic.{⊎_elim}
use mathlib.Core.List.{List, [], ◌∷◌, ◌++◌}
use Prim.Native.Nat.{ℕ, zero, suc, ◌+◌, ◌-◌, ◌≤◌, ◌<◌}
use native.Mathlib.Nat.{not-suc-le-zero, le_of_suc-le-suc}
use native.Mathlib.Omega.{arith}
use lib.ListN.{length, get_or, take, drop, length-drop}
use lib.Seq.{ext_get_or, get_or-append-add, get_or-drop, get_or-take, length-take-le}
use borrow.Rule.Slice.PartMut.{same_len_mid}
use Rattle.ground.specs.Drawn.{fill_at, get_or_after, get_or_before, get_or_fill_at, length_fill_at}
use Rattle.ground.specs.Table.{tabulate, get_or_tabulate, length_tabulate, tabulate_is}
use Rattle.ground.specs.Truth.{le_or_lt}

get_or_left : (xs ys : List ℕ) (k : ℕ) → k < length xs → get_or (xs ++ ys) k 0 ≡ get_or xs k 0
get_or_left [] ys k h = absurd (not-suc-le-zero h)
get_or_left (x ∷ xs) ys zero h = refl
get_or_left (x ∷ xs) ys (suc k) h = get_or_left xs ys k (le_of_suc-le-suc h)

module _ (a n : ℕ) (xs : List ℕ) (fits : a + n ≤ length xs) where
  mid_length : length (take n (drop a xs)) ≡ n
  mid_length = length-take-le n (drop a xs) (rw (length-drop a xs) (omega arith))

  pub mid_is : take n (drop a xs) ≡ tabulate n (λ k. get_or xs (a + k) 0)
  mid_is = tabulate_is (take n (drop a xs)) n (λ k. get_or xs (a + k) 0) 0 mid_length (λ k b. get_or-take n (drop a xs) k 0 b ∙ get_or-drop a xs k 0)

  module _ (f : ℕ → ℕ) where
    abbrev rest : List ℕ
    rest = drop n (drop a xs)

    abbrev put : List ℕ
    put = take a xs ++ (tabulate n f ++ rest)

    head : length (take a xs) ≡ a
    head = length-take-le a xs (omega arith)

    put_length : length put ≡ length xs
    put_length = same_len_mid a n xs (tabulate n f) (length_tabulate n f ∙ sym mid_length)

    before : (k : ℕ) → k < a → get_or put k 0 ≡ get_or xs k 0
    before k h = get_or_left (take a xs) (tabulate n f ++ rest) k (rw head h) ∙ get_or-take a xs k 0 h

    behind : (j : ℕ) → get_or put (a + j) 0 ≡ get_or (tabulate n f ++ rest) j 0
    behind j = ap (λ (m : ℕ). get_or put (m + j) 0) (sym head) ∙ get_or-append-add (take a xs) (tabulate n f ++ rest) j 0

    within : (j : ℕ) → j < n → get_or put (a + j) 0 ≡ f j
    within j h = behind j ∙ get_or_left (tabulate n f) rest j (rw (length_tabulate n f) h) ∙ get_or_tabulate n f j 0 h

    after : (j : ℕ) → get_or put (a + (n + j)) 0 ≡ get_or xs (a + (n + j)) 0
    after j =
        behind (n + j)
        ∙ ap (λ (m : ℕ). get_or (tabulate n f ++ rest) (m + j) 0) (sym (length_tabulate n f))
        ∙ get_or-append-add (tabulate n f) rest j 0
        ∙ get_or-drop n (drop a xs) j 0
        ∙ get_or-drop a xs (n + j) 0

    filled_within : (k : ℕ) → a ≤ k → k < a + n → get_or put k 0 ≡ get_or (fill_at a n f xs) k 0
    filled_within k l h =
        let e : a + (k - a) ≡ k = omega arith in
        ap (λ (m : ℕ). get_or put m 0) (sym e)
        ∙ within (k - a) (omega arith)
        ∙ sym (get_or_fill_at a n f xs (k - a) 0 (omega arith) (omega arith))
        ∙ ap (λ (m : ℕ). get_or (fill_at a n f xs) m 0) e

    filled_after : (k : ℕ) → a + n ≤ k → get_or put k 0 ≡ get_or (fill_at a n f xs) k 0
    filled_after k l =
        let e : a + (n + (k - (a + n))) ≡ k = omega arith in
        ap (λ (m : ℕ). get_or put m 0) (sym e)
        ∙ after (k - (a + n))
        ∙ ap (λ (m : ℕ). get_or xs m 0) e
        ∙ sym (get_or_after a n f xs k 0 l)

    pub put_is : take a xs ++ (tabulate n f ++ drop n (drop a xs)) ≡ fill_at a n f xs
    put_is =
        ext_get_or 0 put (fill_at a n f xs) (put_length ∙ sym (length_fill_at a n f xs))
        (λ k b.
        ⊎_elim
        (λ (l : a ≤ k).
        ⊎_elim (λ (m : a + n ≤ k). filled_after k m) (λ (m : k < a + n). filled_within k l m) (le_or_lt (a + n) k))
        (λ (l : k < a). before k l ∙ sym (get_or_before a n f xs k 0 l)) (le_or_lt a k))
