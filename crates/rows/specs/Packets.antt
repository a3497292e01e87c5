-- The rows of a port's two packets, the one being gathered and the one that rules, and of its marks.
use Rattle.std.specs.Prelude.{List, [], ◌∷◌, ℕ, ◌+◌, ◌*◌, get_or, set}
use Rattle.ground.specs.Types.{Bytes, Rows}
use Rattle.rows.specs.Rows.{PORT-ROWS, row_in, put_row}

unfoldable pub packets_at : Rows → ℕ → List (List ℕ)
packets_at s i = row_in s (i * PORT-ROWS + 3) ∷ row_in s (i * PORT-ROWS + 4) ∷ []

unfoldable pub put_packets : (s : Rows) (port : ℕ) (pair : List (List ℕ)) → Rows
put_packets s i pair = put_row (put_row s (i * PORT-ROWS + 3) (get_or pair 0 [])) (i * PORT-ROWS + 4) (get_or pair 1 [])

-- an entry of the first of two packets
unfoldable pub entry_in : List (List ℕ) → ℕ → ℕ
entry_in pair k = get_or (get_or pair 0 []) k 0

-- two packets, the first one with another entry
unfoldable pub with_entry : (pair : List (List ℕ)) (k entry : ℕ) → List (List ℕ)
with_entry pair k entry = set pair 0 (set (get_or pair 0 []) k entry)

unfoldable pub marks_at : Rows → ℕ → Bytes
marks_at s i = row_in s (i * PORT-ROWS + 5)

unfoldable pub put_marks : (s : Rows) (port : ℕ) (row : Bytes) → Rows
put_marks s i row = put_row s (i * PORT-ROWS + 5) row
