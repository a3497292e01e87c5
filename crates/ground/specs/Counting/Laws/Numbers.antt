-- How many, and the greatest: bounds, comparisons, one more or less, and ranks.
use Rattle.std.specs.Prelude.{◌≡◌, refl, ◌≢◌, Bool, true, false, cond, not, ◌&&◌, ℕ, zero, suc, ◌+◌, ◌≤◌, ◌<◌, eqb, ltb}
use Rattle.std.proofs.Common.{◌∙◌, sym, ap, ⊎_elim, true≢false, not-suc-le-zero, add-one, arith, eq-eqb, ne_eqb, ltb-true, ltb-false}
use Rattle.std.proofs.Math.Bool.{and-true, and-false}
use Rattle.ground.specs.Truth.{and_right, eq_or_ne}
use Rattle.ground.specs.Counting.Words.{count, greatest}

pub count_le : (n : ℕ) (f : ℕ → Bool) → count n f ≤ n
count_le zero f = omega arith
count_le (suc n) f = go (f n) (count_le n f)
  where
    go : (b : Bool) → count n f ≤ n → count n f + cond b 1 0 ≤ suc n
    go true h = omega arith
    go false h = omega arith

-- one more turn of a loop
pub count_more : (f : ℕ → Bool) (i sum r : ℕ) → sum ≡ count i f → r ≡ cond (f i) 1 0 → sum + r ≡ count (i + 1) f
count_more f i sum r e h = rw (add-one, e, h)

pub count_fits : (f : ℕ → Bool) (b : Bool) (i sum r : ℕ) → sum ≡ count i f → r ≡ cond b 1 0 → sum + r ≤ i + 1
count_fits f true i sum r e h = let m = count_le i f in omega arith
count_fits f false i sum r e h = let m = count_le i f in omega arith

-- the same test
pub count_ext : (n : ℕ) (f g : ℕ → Bool) → ((k : ℕ) → k < n → f k ≡ g k) → count n f ≡ count n g
count_ext zero f g h = refl
count_ext (suc n) f g h = rw (count_ext n f g (λ k b. h k (omega arith)), h n (omega arith))

pub count_none : (n : ℕ) (f : ℕ → Bool) → ((k : ℕ) → k < n → f k ≡ false) → count n f ≡ 0
count_none zero f h = refl
count_none (suc n) f h = rw (count_none n f (λ k b. h k (omega arith)), h n (omega arith))

pub count_all : (n : ℕ) (f : ℕ → Bool) → ((k : ℕ) → k < n → f k ≡ true) → count n f ≡ n
count_all zero f h = refl
count_all (suc n) f h = rw (count_all n f (λ k b. h k (omega arith)), h n (omega arith)) (omega arith)

-- where f holds g does
pub count_mono : (n : ℕ) (f g : ℕ → Bool) → ((k : ℕ) → k < n → f k ≡ true → g k ≡ true) → count n f ≤ count n g
count_mono zero f g h = omega arith
count_mono (suc n) f g h = go (f n) (g n) refl refl (count_mono n f g (λ k b. h k (omega arith)))
  where
    go : (a b : Bool) → f n ≡ a → g n ≡ b → count n f ≤ count n g → count n f + cond a 1 0 ≤ count n g + cond b 1 0
    go true true e d r = omega arith
    go true false e d r = absurd (true≢false (sym (h n (omega arith) e) ∙ d))
    go false true e d r = omega arith
    go false false e d r = omega arith

-- f without s
pub count_without : (n : ℕ) (f g : ℕ → Bool) (s : ℕ) → s < n → f s ≡ true → g s ≡ false → ((k : ℕ) → k < n → k ≢ s → f k ≡ g k)
    → count n f ≡ suc (count n g)
count_without zero f g s h t u same = absurd (not-suc-le-zero h)
count_without (suc n) f g s h t u same =
    let rest = count_without n f g s in
    ⊎_elim
    (λ (e : s ≡ n).
    let r : count n f ≡ count n g = count_ext n f g (λ k b. same k (omega arith) (λ (q : k ≡ s). let z = q ∙ e in omega arith)) in
    rw (r, rw e at t, rw e at u) (omega arith))
    (λ (d : s ≢ n).
    let r : count n f ≡ suc (count n g) = rest (omega arith) t u (λ k b. same k (omega arith)) in
    rw (r, same n (omega arith) (λ (q : n ≡ s). d (sym q))) (omega arith))
    (eq_or_ne s n)

-- where f holds g does, and g at s besides
pub count_lt : (n : ℕ) (f g : ℕ → Bool) (s : ℕ) → s < n → f s ≡ false → g s ≡ true → ((k : ℕ) → k < n → f k ≡ true → g k ≡ true)
    → count n f < count n g
count_lt n f g s h u t more =
    let w : ℕ → Bool = λ k. g k && not (eqb k s) in
    let same : (k : ℕ) → k < n → k ≢ s → g k ≡ w k = (λ k b d. rw (ne_eqb k s d) (sym (and-true (g k)))) in
    let e : count n g ≡ suc (count n w) = count_without n g w s h t (rw (eq-eqb s s refl) (and-false (g s))) same in
    let m : count n f ≤ count n w = count_mono n f w (λ k b v. without k b v) in
    omega arith
  where
    without : (k : ℕ) → k < n → f k ≡ true → (g k && not (eqb k s)) ≡ true
    without k b v =
        let d : k ≢ s = (λ (e : k ≡ s). true≢false (sym v ∙ ap f e ∙ u)) in
        rw (more k b v, ne_eqb k s d)

-- no m of a number at which the test holds is above the greatest
pub greatest_above : (n : ℕ) (f : ℕ → Bool) (m : ℕ → ℕ) (k : ℕ) → k < n → f k ≡ true → m k ≤ greatest n f m
greatest_above zero f m k h t = absurd (not-suc-le-zero h)
greatest_above (suc n) f m k h t =
    let rest = greatest_above n f m k in
    ⊎_elim (λ (e : k ≡ n). last e (ltb (greatest n f m) (m n)) refl) (λ (d : k ≢ n). older (rest (omega arith) t) (f n && ltb (greatest n f m) (m n)) refl) (eq_or_ne k n)
  where
    last : k ≡ n → (b : Bool) → ltb (greatest n f m) (m n) ≡ b → m k ≤ greatest (suc n) f m
    last e true g = rw (e, rw e at t, g) (omega arith)
    last e false g = let w = ltb-false (greatest n f m) (m n) g in rw (e, rw e at t, g) w

    older : m k ≤ greatest n f m → (b : Bool) → (f n && ltb (greatest n f m) (m n)) ≡ b → m k ≤ cond b (m n) (greatest n f m)
    older l true g = let w = ltb-true (greatest n f m) (m n) (and_right (f n) (ltb (greatest n f m) (m n)) g) in omega arith
    older l false g = l
