-- Lengths of what is lent (01, 'Answer numbers': 9).
use Rattle.std.specs.Prelude.{Bool, ◌&&◌, ◌||◌, ℕ, ◌*◌, ◌==◌}
use Rattle.ground.specs.Plain.{◌≤?◌}
use Rattle.packet.specs.Kinds.{frames}
use Rattle.phases.specs.Sizes.{store_for}
use Rattle.rows.specs.declared.group.Group.{Group}
use Rattle.rows.specs.Rows.{rows_for}

-- the state's rows fit the count; an empty group has any
unfoldable pub rows_fit : ℕ → ℕ → Bool
rows_fit n rows = n == 0 || rows == rows_for n

-- 'payload, store .. length'
unfoldable pub frame_fits : (g : Group) (ports rows payload store : ℕ) → Bool
frame_fits g n rows payload store = rows_fit n rows && payload == g.payload && store == store_for g n

-- 'The lent output holds at least ports x 16 x P bytes.' Of VC-12 32: an epoch's frames.
unfoldable pub output_for : Group → ℕ → ℕ
output_for g n = n * frames g.kind * g.payload

-- how many bytes the record of a report has
abbrev pub report_bytes : ℕ
report_bytes = 8

unfoldable pub fetch_fits : (g : Group) (ports rows store out report : ℕ) → Bool
fetch_fits g n rows store out report =
    rows_fit n rows && store == store_for g n && output_for g n ≤? out && report == report_bytes
