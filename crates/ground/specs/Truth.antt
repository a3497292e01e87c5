-- Tests as facts: what it says that a test made by && and || is true, when two tests are one, and cases on numbers.
use Rattle.std.specs.Prelude.{◌≡◌, refl, ◌⊎◌, ◌≢◌, Bool, true, false, ◌&&◌, ◌||◌, ℕ, ◌≤◌, ◌<◌, if◌then◌else◌, ◌==◌}
use Rattle.std.proofs.Common.{sym, ◌∙◌, inl, inr, true≢false, arith, leb-true, leb-false, ltb-true, eqb-true}
use Rattle.std.proofs.lemmas.Bool.{eqb-false}
use Rattle.ground.specs.Plain.{◌<?◌, ◌≤?◌}

pub and-true : (b c : Bool) → b ≡ true → c ≡ true → (b && c) ≡ true
and-true b c hb hc = rw (hb, hc)

pub and_left : (b c : Bool) → (b && c) ≡ true → b ≡ true
and_left true c h = refl
and_left false c h = h

pub and_right : (b c : Bool) → (b && c) ≡ true → c ≡ true
and_right true c h = h
and_right false c h = absurd (true≢false (sym h))

pub or_left : (b c : Bool) → b ≡ true → (b || c) ≡ true
or_left b c h = rw h

pub or_right : (b c : Bool) → c ≡ true → (b || c) ≡ true
or_right true c h = refl
or_right false c h = h

pub or_cases : (b c : Bool) → (b || c) ≡ true → (b ≡ true) ⊎ (c ≡ true)
or_cases true c h = inl refl
or_cases false c h = inr h

pub neither : (b c : Bool) → (b || c) ≡ false → (b ≡ false) × (c ≡ false)
neither true c h = absurd (true≢false h)
neither false c h = (refl, h)

-- each holds where the other does
pub same_test : (b c : Bool) → (b ≡ true → c ≡ true) → (c ≡ true → b ≡ true) → b ≡ c
same_test true c to back = sym (to refl)
same_test false true to back = back refl
same_test false false to back = refl

pub fails : (b : Bool) → (b ≡ true → ⊥) → b ≡ false
fails true h = absurd (h refl)
fails false h = refl

pub clash : {A : Type 0} (b : Bool) → b ≡ true → b ≡ false → A
clash b t f = absurd (true≢false (sym t ∙ f))

-- what holds of either side of a choice, where the test picks it, holds of the choice
pub cond_by : {A : Type 0} (P : A → Type 0) (b : Bool) (x y : A) → (b ≡ true → P x) → (b ≡ false → P y) → P (if b then x else y)
cond_by P true x y t f = t refl
cond_by P false x y t f = f refl

-- the smaller of two numbers is at most the second
pub smaller_le : (m n : ℕ) → (if m <? n then m else n) ≤ n
smaller_le m n = cond_by (λ r. r ≤ n) (m <? n) m n (λ e. let h = ltb-true m n e in omega arith) (λ e. omega arith)

pub le_or_lt : (m n : ℕ) → (m ≤ n) ⊎ (n < m)
le_or_lt m n = go (m ≤? n) refl
  where
    go : (b : Bool) → (m ≤? n) ≡ b → (m ≤ n) ⊎ (n < m)
    go true e = inl (leb-true m n e)
    go false e = inr (leb-false m n e)

pub eq_or_ne : (m n : ℕ) → (m ≡ n) ⊎ (m ≢ n)
eq_or_ne m n = go (m == n) refl
  where
    go : (b : Bool) → (m == n) ≡ b → (m ≡ n) ⊎ (m ≢ n)
    go true e = inl (eqb-true m n e)
    go false e = inr (eqb-false m n e)
