-- A block: h rows of w bytes, one row after the other, each of another member; or the same bytes as w lines of h.
use Rattle.std.specs.Prelude.{◌≡◌, List, ◌⊎◌, ℕ, ◌+◌, ◌-◌, ◌*◌, ◌/◌, ◌%◌, ◌≤◌, ◌<◌, length, get_or}
use Rattle.ground.specs.Table.{tabulate}

-- rows of w bytes turned to lines of h: byte l of line i is byte i of row l
abbrev pub turned : (h w : ℕ) (q : List ℕ) → List ℕ
turned h w q = tabulate (h * w) (λ k. get_or q (k % h * w + k / h) 0)

-- the rows read: byte i of row l is byte j + i of the member ranked r + l
pub record Rows (h w : ℕ) (m : ℕ → ℕ → ℕ) (r j : ℕ) (before q : List ℕ) : Type 0 where
  pub len : length q ≡ length before
  pub is : (l i : ℕ) → l < h → i < w → get_or q (l * w + i) 0 ≡ m (r + l) (j + i)

-- Of a block that lies in a frame of lines of X bytes, from line j and column r on: the byte at k, where the block is in lines of h bytes,
abbrev pub line_byte : (h X place j r : ℕ) (q : List ℕ) (k : ℕ) → ℕ
line_byte h X place j r q k = get_or q (((k - place) / X - j) * h + ((k - place) % X - r)) 0

-- and where it is in rows of w bytes, one for each column.
abbrev pub row_byte : (w X place j r : ℕ) (q : List ℕ) (k : ℕ) → ℕ
row_byte w X place j r q k = get_or q (((k - place) % X - r) * w + ((k - place) / X - j)) 0

-- eight rows of sixteen bytes, sixteen of eight, or sixteen of sixteen
pub record Sizes (h w : ℕ) : Type 0 where
  pub rows : h % 8 ≡ 0
  pub bytes : w % 8 ≡ 0
  pub rows_most : h ≤ 16
  pub bytes_most : w ≤ 16
  pub both : 24 ≤ h + w

-- two rows of 64 bytes, four of 32, or eight of sixteen: 128 bytes
abbrev pub Even : ℕ → ℕ → Type 0
Even h w = ((h ≡ 2) × (w ≡ 64)) ⊎ (((h ≡ 4) × (w ≡ 32)) ⊎ ((h ≡ 8) × (w ≡ 16)))
