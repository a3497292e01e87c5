-- A port's marks: 128 bits in one row of sixteen bytes. Bit i says that all frames of the i-th epoch of the window, counted from the oldest, stand in the store.
use Rattle.std.specs.Prelude.{◌≡◌, Bool, ℕ, ◌+◌, ◌*◌, ◌/◌, ◌%◌, ◌^◌, ◌<◌, get_or, length, set, if◌then◌else◌}
use Rattle.ground.specs.Bits.{odd}
use Rattle.ground.specs.Plain.{◌<?◌}
use Rattle.ground.specs.Table.{tabulate}
use Rattle.ground.specs.Types.{Bytes}

-- bit i of a row: the lowest bit of the first byte is bit 0
unfoldable pub mark_in : Bytes → ℕ → Bool
mark_in row i = odd (get_or row (i / 8) 0 / 2 ^ (i % 8))

unfoldable pub first_mark : Bytes → Bool
first_mark row = odd (get_or row 0 0)

unfoldable pub marked_byte : ℕ → ℕ → ℕ
marked_byte b i = if odd (b / 2 ^ (i % 8)) then b else b + 2 ^ (i % 8)

-- with epoch i marked too
unfoldable pub marked_at : Bytes → ℕ → Bytes
marked_at row i = if i / 8 <? 16 then set row (i / 8) (marked_byte (get_or row (i / 8) 0) i) else row

unfoldable pub cut_byte : (b k i : ℕ) → ℕ
cut_byte b k i = if k <? i / 8 then b else if i / 8 <? k then 0 else b % 2 ^ (i % 8)

-- without epoch i and all later ones
unfoldable pub cut_from : Bytes → ℕ → Bytes
cut_from row i = tabulate 16 (λ k. cut_byte (get_or row k 0) k i)

unfoldable pub passed_byte : ℕ → ℕ → ℕ
passed_byte b next = b / 2 + next % 2 * 128

-- as the window passes its oldest epoch: each bit moves down by one
unfoldable pub passed_marks : Bytes → Bytes
passed_marks row = tabulate 16 (λ k. if k <? 15 then passed_byte (get_or row k 0) (get_or row (k + 1) 0) else get_or row k 0 / 2)

-- a row of sixteen bytes
pub record Sixteen (row : Bytes) : Type 0 where
  pub len : length row ≡ 16
  pub bytes : (k : ℕ) → k < 16 → get_or row k 0 < 256
