-- How many ports there are.
use Rattle.std.specs.Prelude.{ltb, ℕ, ◌≤◌, ◌<◌}
use Rattle.ground.specs.Truth.{cond_by, smaller_le}
use Rattle.judge.specs.Seen.{size_of}

pub size_le : (count : ℕ) → size_of count ≤ 64
size_le count = smaller_le count 64

pub size_over : (count i : ℕ) → i < count → i < 64 → i < size_of count
size_over count i h b = cond_by (λ m. i < m) (ltb count 64) count 64 (λ e. h) (λ e. b)
