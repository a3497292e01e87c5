-- A row of marks passed byte by byte.
use mathlib.Core.Path.{◌≡◌, refl}
use mathlib.Core.Bool.{cond}
use mathlib.Core.List.{List}
use Prim.Native.Nat.{ℕ, ◌+◌, ◌/◌, ◌<◌}
use lib.Dec.{ltb}
use lib.ListN.{get_or}
use borrow.Author.Tests.{lt-ltb}
use Rattle.store.specs.Marks.{passed_byte}

abbrev pub passed_at : List ℕ → ℕ → ℕ
passed_at row k = cond (ltb k 15) (passed_byte (get_or row k 0) (get_or row (k + 1) 0)) (get_or row k 0 / 2)

pub passed_in : (row : List ℕ) (k : ℕ) → k < 15 → passed_byte (get_or row k 0) (get_or row (k + 1) 0) ≡ passed_at row k
passed_in row k h = rw (lt-ltb k 15 h)

pub passed_last : (row : List ℕ) → get_or row 15 0 / 2 ≡ passed_at row 15
passed_last row = refl
