-- The receiver's state as rows of sixteen bytes. Row 0 is the group's; port i has the five rows from 5 i + 1 on.
use Rattle.std.specs.Prelude.{◌≡◌, List, ℕ, ◌+◌, ◌*◌, ◌<◌, length, get_or, replicate, set}
use Rattle.ground.specs.Types.{Bytes, Rows}

-- a row that is not there reads as zeros
unfoldable pub row_in : Rows → ℕ → Bytes
row_in s k = get_or s k (replicate 16 0)

-- and what is put there is dropped
unfoldable pub put_row : (s : Rows) (k : ℕ) (row : Bytes) → Rows
put_row s k row = set s k row

-- how many rows a port has
abbrev pub PORT-ROWS : ℕ
PORT-ROWS = 5

-- how many rows a group of n ports has
abbrev pub rows_for : ℕ → ℕ
rows_for n = n * PORT-ROWS + 1

-- rows of sixteen bytes, as a host lends them
pub record Shaped (s : List (List ℕ)) : Type 0 where
  pub whole : (k : ℕ) → k < length s → length (row_in s k) ≡ 16
  pub bytes : (k j : ℕ) → k < length s → j < 16 → get_or (row_in s k) j 0 < 256
