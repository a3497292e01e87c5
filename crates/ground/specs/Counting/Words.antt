-- Some, every, how many, the last that, and the greatest, over the numbers below n. Each goes from the end, so that a loop from 0 up works out one more with each turn.
use Rattle.std.specs.Prelude.{◌≡◌, Bool, true, false, ◌&&◌, ◌||◌, ℕ, zero, suc, ◌+◌, ◌<◌, if◌then◌else◌}
use Rattle.ground.specs.Plain.{◌<?◌}

-- the test f holds at some number below n
abbrev pub some : ℕ → (ℕ → Bool) → Bool
some zero f = false
some (suc n) f = some n f || f n

-- the test f holds at every number below n
abbrev pub every : ℕ → (ℕ → Bool) → Bool
every zero f = true
every (suc n) f = every n f && f n

-- at how many numbers below n the test f holds
abbrev pub count : ℕ → (ℕ → Bool) → ℕ
count zero f = 0
count (suc n) f = count n f + (if f n then 1 else 0)

-- the last number below n at which the test f holds, 0 where it holds at none
abbrev pub last_that : ℕ → (ℕ → Bool) → ℕ
last_that zero f = 0
last_that (suc n) f = if f n then n else last_that n f

-- the greatest m of a number below n at which the test f holds, 0 where it holds at none
abbrev pub greatest : (n : ℕ) (f : ℕ → Bool) (m : ℕ → ℕ) → ℕ
greatest zero f m = 0
greatest (suc n) f m = if f n && greatest n f m <? m n then m n else greatest n f m

-- of the numbers below n those at which f holds have different m
abbrev pub Apart : (n : ℕ) (f : ℕ → Bool) (m : ℕ → ℕ) → Type 0
Apart n f m = (i j : ℕ) → i < n → j < n → f i ≡ true → f j ≡ true → m i ≡ m j → i ≡ j

-- one at which the test holds
pub record One (n : ℕ) (f : ℕ → Bool) : Type 0 where
  pub at : ℕ
  pub below : at < n
  pub holds : f at ≡ true
