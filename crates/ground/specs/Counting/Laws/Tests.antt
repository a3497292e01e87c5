-- Some, every and the one that, as facts about single numbers.
use Rattle.std.specs.Prelude.{◌≡◌, refl, ◌≢◌, Bool, true, false, cond, not, ◌&&◌, ◌||◌, ℕ, zero, suc, ◌+◌, ◌<◌}
use Rattle.std.proofs.Common.{◌∙◌, sym, ⊎_elim, true≢false, not-suc-le-zero, add-one, arith}
use Rattle.std.proofs.lemmas.Bool.{false≢true, not-false}
use Rattle.ground.specs.Truth.{and-true, and_left, and_right, or_left, or_right, or_cases, fails, clash, eq_or_ne}
use Rattle.ground.specs.Counting.Words.{One, every, some, last_that}

-- one more that is asked
pub some_more : (f : ℕ → Bool) (i : ℕ) (r b : Bool) → r ≡ some i f → b ≡ f i → (r || b) ≡ some (i + 1) f
some_more f i r b e h = rw (add-one, e, h)

pub some_at : (n : ℕ) (f : ℕ → Bool) (k : ℕ) → k < n → f k ≡ true → some n f ≡ true
some_at zero f k h t = absurd (not-suc-le-zero h)
some_at (suc n) f k h t =
    let rest = some_at n f k in
    ⊎_elim (λ (e : k ≡ n). or_right (some n f) (f n) (rw (← e) t))
    (λ (d : k ≢ n). or_left (some n f) (f n) (rest (omega arith) t))
    (eq_or_ne k n)

pub some_one : (n : ℕ) (f : ℕ → Bool) → some n f ≡ true → One n f
some_one zero f t = absurd (false≢true t)
some_one (suc n) f t =
    let rest = some_one n f in
    ⊎_elim (λ (e : some n f ≡ true). let o = rest e in record { at = o.at; below = (let b = o.below in omega arith); holds = o.holds })
    (λ (e : f n ≡ true). record { at = n; below = omega arith; holds = e })
    (or_cases (some n f) (f n) t)

-- where some fails, each does
pub none_at : (n : ℕ) (f : ℕ → Bool) → some n f ≡ false → (k : ℕ) → k < n → f k ≡ false
none_at n f e k h = fails (f k) (λ t. clash (some n f) (some_at n f k h t) e)

pub some_none : (n : ℕ) (f : ℕ → Bool) → ((k : ℕ) → k < n → f k ≡ false) → some n f ≡ false
some_none n f h = fails (some n f) (λ t. let o = some_one n f t in clash (f o.at) o.holds (h o.at o.below))

pub every_at : (n : ℕ) (f : ℕ → Bool) → every n f ≡ true → (k : ℕ) → k < n → f k ≡ true
every_at zero f t k h = absurd (not-suc-le-zero h)
every_at (suc n) f t k h =
    let rest = every_at n f (and_left (every n f) (f n) t) k in
    ⊎_elim (λ (e : k ≡ n). rw e (and_right (every n f) (f n) t)) (λ (d : k ≢ n). rest (omega arith)) (eq_or_ne k n)

-- one more at which it holds
pub every_on : (f : ℕ → Bool) (i : ℕ) → every i f ≡ true → f i ≡ true → every (i + 1) f ≡ true
every_on f i e h = rw add-one (and-true (every i f) (f i) e h)

pub every_all : (n : ℕ) (f : ℕ → Bool) → ((k : ℕ) → k < n → f k ≡ true) → every n f ≡ true
every_all zero f h = refl
every_all (suc n) f h =
    let rest : every n f ≡ true = every_all n f (λ k b. h k (omega arith)) in
    rw add-one at (every_on f n rest (h n (omega arith)))

-- where one fails, not every one passes
pub every_fails : (n : ℕ) (f : ℕ → Bool) (k : ℕ) → k < n → f k ≡ false → every n f ≡ false
every_fails n f k h e = fails (every n f) (λ t. clash (f k) (every_at n f t k h) e)

-- tests that agree below n
pub every_ext : (n : ℕ) (f g : ℕ → Bool) → ((k : ℕ) → k < n → f k ≡ g k) → every n f ≡ every n g
every_ext zero f g h = refl
every_ext (suc n) f g h = rw (every_ext n f g (λ k b. h k (omega arith)), h n (omega arith)) refl

pub some_ext : (n : ℕ) (f g : ℕ → Bool) → ((k : ℕ) → k < n → f k ≡ g k) → some n f ≡ some n g
some_ext zero f g h = refl
some_ext (suc n) f g h = rw (some_ext n f g (λ k b. h k (omega arith)), h n (omega arith)) refl

-- one at which the test fails
pub record Lacks (n : ℕ) (f : ℕ → Bool) : Type 0 where
  pub at : ℕ
  pub below : at < n
  pub fails : f at ≡ false

pub every_lacks : (n : ℕ) (f : ℕ → Bool) → every n f ≡ false → Lacks n f
every_lacks zero f e = absurd (true≢false e)
every_lacks (suc n) f e = go (f n) refl (every n f) refl (every_lacks n f)
  where
    go : (b : Bool) → f n ≡ b → (a : Bool) → every n f ≡ a → (every n f ≡ false → Lacks n f) → Lacks (suc n) f
    go false t a s rest = record { at = n; below = omega arith; fails = t }
    go true t true s rest = clash (every n f && f n) (and-true (every n f) (f n) s t) e
    go true t false s rest = let o = rest s in record { at = o.at; below = (let b = o.below in omega arith); fails = o.fails }

-- where not all fail a test, some pass it
pub some_not_none : (n : ℕ) (f : ℕ → Bool) → every n (λ k. not (f k)) ≡ false → some n f ≡ true
some_not_none n f e = let o = every_lacks n (λ k. not (f k)) e in some_at n f o.at o.below (not-false (f o.at) o.fails)

-- where the test holds at some number, the one that is found is such a one
pub last_that_one : (n : ℕ) (f : ℕ → Bool) → some n f ≡ true → (last_that n f < n) × (f (last_that n f) ≡ true)
last_that_one zero f t = absurd (false≢true t)
last_that_one (suc n) f t = go (f n) refl (last_that_one n f)
  where
    go : (b : Bool) → f n ≡ b → (some n f ≡ true → (last_that n f < n) × (f (last_that n f) ≡ true)) → (cond b n (last_that n f) < suc n) × (f (cond b n (last_that n f)) ≡ true)
    go true e rest = (omega arith, e)
    go false e rest =
        let w : some n f ≡ true = ⊎_elim (λ (a : some n f ≡ true). a) (λ (a : f n ≡ true). absurd (true≢false (sym a ∙ e))) (or_cases (some n f) (f n) t) in
        let r = rest w in
        (let l = r.0 in omega arith, r.1)

-- the one that is found lies below n
pub last_that_below : (n : ℕ) (f : ℕ → Bool) → 0 < n → last_that n f < n
last_that_below zero f h = absurd (omega arith)
last_that_below (suc n) f h = go (f n) n (last_that_below n f)
  where
    go : (b : Bool) (m : ℕ) → (0 < m → last_that m f < m) → cond b m (last_that m f) < suc m
    go true m rest = omega arith
    go false zero rest = omega arith
    go false (suc m) rest = let l = rest (omega arith) in omega arith

-- tests that agree below n find the same
pub last_that_ext : (n : ℕ) (f g : ℕ → Bool) → ((k : ℕ) → k < n → f k ≡ g k) → last_that n f ≡ last_that n g
last_that_ext zero f g h = refl
last_that_ext (suc n) f g h = rw (last_that_ext n f g (λ k b. h k (omega arith)), h n (omega arith))
