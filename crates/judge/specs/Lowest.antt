-- The lowest number at which a test holds.
use Rattle.std.specs.Prelude.{Bool, ℕ, zero, suc, if◌then◌else◌}
use Rattle.ground.specs.Counting.Words.{some}

-- the lowest number below n at which the test f holds, if it holds at one
abbrev pub lowest : (n : ℕ) (f : ℕ → Bool) → ℕ
lowest zero f = 0
lowest (suc n) f = if some n f then lowest n f else n
