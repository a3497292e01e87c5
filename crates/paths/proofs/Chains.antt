-- What a chain over a list finds, by the numbers below the list's length.
use Rattle.std.proofs.Common.{◌≡◌, ⊎_elim, Bool, List, ℕ, ◌+◌, ◌-◌, ◌≤◌, ◌<◌, length, get_or, arith, lt-ltb, le-ltb}
use Rattle.std.proofs.Math.Seq.{take-length}
use Rattle.std.specs.List.{list_all}
use Rattle.ground.specs.Counting.Laws.Chains.{all_first}
use Rattle.ground.specs.Counting.Words.{every}
use Rattle.ground.specs.Truth.{le_or_lt}
use Rattle.paths.specs.Checking.{delays_apart}

pub all_every : (p : ℕ → Bool) (xs : List ℕ) → list_all p xs ≡ every (length xs) (λ i. p (get_or xs i 0))
all_every p xs = rw take-length at (all_first p xs 0 (length xs) (omega arith))

-- the library's difference of two numbers
pub apart : (x y : ℕ) → (x - y) + (y - x) ≡ delays_apart x y
apart x y = ⊎_elim (λ (h : y ≤ x). rw (le-ltb x y h) (omega arith)) (λ (h : x < y). rw (lt-ltb x y h) (omega arith)) (le_or_lt y x)
