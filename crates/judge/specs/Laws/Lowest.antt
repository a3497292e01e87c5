-- The lowest number at which a test holds: it holds there, and at none below.
use Rattle.std.specs.Prelude.{◌≡◌, refl, ◌≢◌, Bool, true, false, cond, ◌||◌, ℕ, zero, suc, ◌<◌}
use Rattle.std.proofs.Common.{⊎_elim, not-suc-le-zero, arith}
use Rattle.ground.specs.Counting.Laws.Tests.{none_at, some_at}
use Rattle.ground.specs.Counting.Words.{some}
use Rattle.ground.specs.Truth.{clash, eq_or_ne}
use Rattle.judge.specs.Lowest.{lowest}

-- the lowest holds
pub record Lowest (n : ℕ) (f : ℕ → Bool) : Type 0 where
  pub below : lowest n f < n
  pub holds : f (lowest n f) ≡ true

pub lowest_holds : (n : ℕ) (f : ℕ → Bool) → some n f ≡ true → Lowest n f
lowest_holds zero f t = absurd (clash false t refl)
lowest_holds (suc n) f t = go (some n f) refl (λ e. lowest_holds n f e) t
  where
    go : (b : Bool) → some n f ≡ b → (some n f ≡ true → Lowest n f) → (b || f n) ≡ true → Lowest (suc n) f
    go true e rest u = let o = rest e in record { below = rw e (let l = o.below in omega arith); holds = rw e o.holds }
    go false e rest u = record { below = rw e (omega arith); holds = rw e u }

-- and below it none does
pub lowest_first : (n : ℕ) (f : ℕ → Bool) (i : ℕ) → i < n → some i f ≡ false → f i ≡ true → lowest n f ≡ i
lowest_first zero f i h e t = absurd (not-suc-le-zero h)
lowest_first (suc n) f i h e t =
    let rest = lowest_first n f i in
    ⊎_elim (λ (q : i ≡ n). rw (← q, e) refl) (λ (d : i ≢ n). rw (some_at n f i (omega arith) t) (rest (omega arith) e t)) (eq_or_ne i n)

pub lowest_least : (n : ℕ) (f : ℕ → Bool) → some n f ≡ true → (j : ℕ) → j < lowest n f → f j ≡ false
lowest_least zero f t j h = absurd (clash false t refl)
lowest_least (suc n) f t j h = go (some n f) refl (λ e l. lowest_least n f e j l) h
  where
    go : (b : Bool) → some n f ≡ b → (some n f ≡ true → j < lowest n f → f j ≡ false) → j < cond b (lowest n f) n → f j ≡ false
    go true e rest l = rest e l
    go false e rest l = none_at n f e j l
