-- Bytes dealt in turn.
use Rattle.std.specs.Prelude.{◌≡◌, List, ℕ, ◌+◌, ◌*◌, ◌/◌, ◌%◌, ◌<◌, length, get_or}

-- n numbers of two bytes each, the first byte the low one
pub record Pairs (n : ℕ) (q w : List ℕ) : Type 0 where
  pub low : (i : ℕ) → i < n → get_or w i 0 % 256 ≡ get_or q (2 * i) 0
  pub high : (i : ℕ) → i < n → get_or w i 0 / 256 ≡ get_or q (2 * i + 1) 0

-- of the first i numbers the low bytes from the front on, and the high ones from byte n on
pub record Split (n i : ℕ) (w s : List ℕ) : Type 0 where
  pub len : length s ≡ 128
  pub low : (k : ℕ) → k < i → get_or s k 0 ≡ get_or w k 0 % 256
  pub high : (k : ℕ) → k < i → get_or s (n + k) 0 ≡ get_or w k 0 / 256

-- of n pairs of bytes the even ones, then the odd ones
pub record Dealt (n : ℕ) (q s : List ℕ) : Type 0 where
  pub len : length s ≡ 128
  pub even : (i : ℕ) → i < n → get_or s i 0 ≡ get_or q (2 * i) 0
  pub odd : (i : ℕ) → i < n → get_or s (n + i) 0 ≡ get_or q (2 * i + 1) 0
