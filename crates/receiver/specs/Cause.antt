-- Why the oldest epoch not yet reported would be held or doubtful, and the port: what the next report will go by, read before it is fetched.
use Rattle.std.specs.Prelude.{Bool, ◌&&◌, [], ◌∷◌, ℕ, length, if◌then◌else◌, ◌==◌}
use Rattle.ground.specs.Types.{Bytes, Rows}
use Rattle.judge.specs.Cause.{blamed_of, cause_of}
use Rattle.judge.specs.Seen.{size_of}
use Rattle.phases.specs.Sizes.{ports_in}
use Rattle.receiver.specs.Lengths.{rows_fit}
use Rattle.receiver.specs.Report.{seen_all}
use Rattle.rows.specs.declared.group.Group.{Group}
use Rattle.rows.specs.Group.{group_at}

-- two bytes: the cause by what is seen now, and the lowest port to which its clause applies
unfoldable pub cause_in : (g : Group) (s : Rows) (ports : ℕ) → Bytes
cause_in g s n = cause_of g.kind (seen_all g s n) (size_of n) ∷ blamed_of g.kind (seen_all g s n) (size_of n) ∷ []

unfoldable pub cause_fit : (ports rows out : ℕ) → Bool
cause_fit n rows out = rows_fit n rows && out == 2

unfoldable pub cause_answer : (s : Rows) (out : ℕ) → ℕ
cause_answer s out = if cause_fit (ports_in (group_at s)) (length s) out then 0 else 9

unfoldable pub cause_out : (s : Rows) (out : Bytes) → Bytes
cause_out s out = if cause_fit (ports_in (group_at s)) (length s) (length out) then cause_in (group_at s) s (ports_in (group_at s)) else out
