-- The row of a port's step.
use Rattle.std.specs.Prelude.{◌∷◌, ℕ, ◌+◌, ◌*◌, ◌/◌, ◌%◌, drop, get_or}
use Rattle.ground.specs.Types.{Bytes, Rows}
use Rattle.rows.specs.declared.step.Step.{Step}
use Rattle.rows.specs.Rows.{PORT-ROWS, row_in, put_row}

unfoldable pub step_of : Bytes → Step
step_of row =
    record {
      spare = drop 12 row;
      heard = get_or row 0 0;
      failed = get_or row 1 0;
      count = get_or row 2 0;
      next = get_or row 3 0 * 256 + get_or row 4 0;
      joined = get_or row 5 0;
      ever_since = get_or row 6 0;
      joined_at = get_or row 7 0;
      whole = get_or row 8 0;
      breaks = get_or row 9 0;
      odd = get_or row 10 0;
      bits = get_or row 11 0;
    }

unfoldable pub step_row : Step → Bytes
step_row s =
    s.heard
    ∷ s.failed
    ∷ s.count
    ∷ (s.next / 256)
    ∷ (s.next % 256)
    ∷ s.joined
    ∷ s.ever_since
    ∷ s.joined_at
    ∷ s.whole
    ∷ s.breaks
    ∷ s.odd
    ∷ s.bits
    ∷ s.spare

unfoldable pub step_at : Rows → ℕ → Step
step_at s i = step_of (row_in s (i * PORT-ROWS + 1))

-- a step that waits for another tag
unfoldable pub with_next : Step → ℕ → Step
with_next q n =
    record {
      spare = q.spare;
      heard = q.heard;
      failed = q.failed;
      count = q.count;
      next = n;
      joined = q.joined;
      ever_since = q.ever_since;
      joined_at = q.joined_at;
      whole = q.whole;
      breaks = q.breaks;
      odd = q.odd;
      bits = q.bits;
    }

unfoldable pub put_step : (s : Rows) (port : ℕ) (q : Step) → Rows
put_step s i q = put_row s (i * PORT-ROWS + 1) (step_row q)
