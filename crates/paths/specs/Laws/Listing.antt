-- A list of the numbers at which a test holds: how many they are, that the test holds at each, and that they rise.
use Rattle.std.specs.Prelude.{◌≡◌, refl, Bool, true, false, cond, List, [], ◌∷◌, ◌++◌, ℕ, zero, suc, ◌+◌, ◌≤◌, ◌<◌, length, get_or}
use Rattle.std.proofs.Common.{◌∙◌, ⊎_elim, append-nil, not-suc-le-zero, arith, length-append}
use Rattle.std.proofs.Math.ListN.{get_or-append}
use Rattle.std.proofs.lemmas.List.{get_or_at}
use Rattle.ground.specs.Counting.Words.{count}
use Rattle.ground.specs.Truth.{le_or_lt}
use Rattle.paths.specs.Planning.{listed}

pub length_listed : (n : ℕ) (f : ℕ → Bool) → length (listed n f) ≡ count n f
length_listed zero f = refl
length_listed (suc n) f = length-append (listed n f) (cond (f n) (n ∷ []) []) ∙ go (f n) (length_listed n f)
  where
    go : (b : Bool) → length (listed n f) ≡ count n f → length (listed n f) + length (cond b (n ∷ []) []) ≡ count n f + cond b 1 0
    go true e = rw e
    go false e = rw e

-- an entry of a list with one more at its end
abbrev Last : List ℕ → ℕ → ℕ → (ℕ → Type 0) → Type 0
Last l n a P = (a < length l → P (get_or l a 0)) → (length l ≡ a → P n) → P (get_or (l ++ (n ∷ [])) a 0)

last : (l : List ℕ) (n a : ℕ) (P : ℕ → Type 0) → a < length (l ++ (n ∷ [])) → Last l n a P
last l n a P h older new =
    let m : length (l ++ (n ∷ [])) ≡ length l + 1 = length-append l (n ∷ []) in
    ⊎_elim
    (λ (g : length l ≤ a). let e : length l ≡ a = omega arith in rw (get_or_at l n [] 0 a e) (new e))
    (λ (g : a < length l). rw (get_or-append l (n ∷ []) 0 a g) (older g))
    (le_or_lt (length l) a)

abbrev Among : ℕ → (ℕ → Bool) → ℕ → Type 0
Among n f i = (i < n) × (f i ≡ true)

pub listed_at : (n : ℕ) (f : ℕ → Bool) (a : ℕ) → a < length (listed n f) → Among n f (get_or (listed n f) a 0)
listed_at zero f a h = absurd (not-suc-le-zero h)
listed_at (suc n) f a h = go (f n) refl (listed_at n f a) h
  where
    wider : (i : ℕ) → Among n f i → Among (suc n) f i
    wider i w = (let l = w.0 in omega arith, w.1)

    go : (b : Bool) → f n ≡ b → (a < length (listed n f) → Among n f (get_or (listed n f) a 0)) → a < length (listed n f ++ cond b (n ∷ []) [])
        → Among (suc n) f (get_or (listed n f ++ cond b (n ∷ []) []) a 0)
    go true e rest g = last (listed n f) n a (Among (suc n) f) g (λ l. wider _ (rest l)) (λ l. (omega arith, e))
    go false e rest g = rw (append-nil (listed n f)) (wider _ (rest (rw (append-nil (listed n f)) at g)))

pub listed_rises : (n : ℕ) (f : ℕ → Bool) (a b : ℕ) → a < b → b < length (listed n f) → get_or (listed n f) a 0 < get_or (listed n f) b 0
listed_rises zero f a b l h = absurd (not-suc-le-zero h)
listed_rises (suc n) f a b l h = go (f n) (listed_rises n f a b l) h
  where
    go : (t : Bool) → (b < length (listed n f) → get_or (listed n f) a 0 < get_or (listed n f) b 0) → b < length (listed n f ++ cond t (n ∷ []) [])
        → get_or (listed n f ++ cond t (n ∷ []) []) a 0 < get_or (listed n f ++ cond t (n ∷ []) []) b 0
    go true rest g =
        let m : length (listed n f ++ (n ∷ [])) ≡ length (listed n f) + 1 = length-append (listed n f) (n ∷ []) in
        let first : a < length (listed n f) = omega arith in
        rw (get_or-append (listed n f) (n ∷ []) 0 a first)
        (last (listed n f) n b (λ i. get_or (listed n f) a 0 < i) g rest (λ e. (listed_at n f a first).0))
    go false rest g = rw (append-nil (listed n f)) (rest (rw (append-nil (listed n f)) at g))

pub listed_apart : (n : ℕ) (f : ℕ → Bool) (a b : ℕ) → a < length (listed n f) → b < length (listed n f) → get_or (listed n f) a 0 ≡ get_or (listed n f) b 0 → a ≡ b
listed_apart n f a b ha hb e =
    ⊎_elim
    (λ (l : a ≤ b).
    ⊎_elim (λ (m : b ≤ a). omega arith) (λ (m : a < b). absurd (let r = listed_rises n f a b m hb in omega arith)) (le_or_lt b a))
    (λ (l : b < a). absurd (let r = listed_rises n f b a l ha in omega arith))
    (le_or_lt a b)
