-- The receiver's C calls are the receiver's own. A frame is flagged as failed by any number but 0.
use Rattle.std.specs.Prelude.{Bool, not, List, ℕ, if◌then◌else◌, ◌==◌}
use Rattle.ground.specs.Plain.{◌<?◌}
use Rattle.ground.specs.Types.{Rows}
use Rattle.receiver.specs.Starting.{start_as_answer, start_as_rows}

abbrev pub failed_c : ℕ → Bool
failed_c failed = not (failed == 0)

-- A start says of which kind its packets are: H4, or FIXED (request 2026-12). Any other is out of range: 4, and an empty group. A number that is no byte names no kind, as 255 doesn't.
abbrev pub H4 : ℕ
H4 = 0

abbrev pub kind_c : ℕ → ℕ
kind_c kind = if kind <? 256 then kind else 255

abbrev pub start_as_answer_c : (kind ports P W store : ℕ) (hold restore : List ℕ) (rows : ℕ) → ℕ
start_as_answer_c kind ports P W store hold restore rows = start_as_answer (kind_c kind) ports P W store hold restore rows

abbrev pub start_as_rows_c : (kind ports P W store : ℕ) (hold restore : List ℕ) (s : Rows) → Rows
start_as_rows_c kind ports P W store hold restore s = start_as_rows (kind_c kind) ports P W store hold restore s
