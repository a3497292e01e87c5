-- The planner and the check for C: their own answer, then 9 where the result's buffer has another length. Under a refusal the buffer stays.
use Rattle.std.specs.Prelude.{List, [], ◌∷◌, ℕ, length, if◌then◌else◌, ◌==◌}
use Rattle.ground.specs.Flags.{one_if}
use Rattle.ground.specs.Types.{Bytes}
use Rattle.paths.specs.Answers.{answer_of, number_of}
use Rattle.paths.specs.Checking.{checked_of}
use Rattle.paths.specs.Planning.{Plan, plan_of}

-- how many are chosen, then their numbers
abbrev pub plan_bytes_of : Plan → List ℕ
plan_bytes_of p = p.count ∷ p.paths

unfoldable pub lent_answer : (number size : ℕ) (out : Bytes) → ℕ
lent_answer number size out = if number == 0 then (if length out == size then 0 else 9) else number

unfoldable pub lent_bytes : (number size : ℕ) (new out : Bytes) → Bytes
lent_bytes number size new out = if number == 0 then (if length out == size then new else out) else out

abbrev pub plan_answer_c : (delays : List ℕ) (k W : ℕ) (out : Bytes) → ℕ
plan_answer_c delays k W out = lent_answer (number_of (answer_of delays k W)) 65 out

abbrev pub plan_bytes_c : (delays : List ℕ) (k W : ℕ) (out : Bytes) → Bytes
plan_bytes_c delays k W out = lent_bytes (number_of (answer_of delays k W)) 65 (plan_bytes_of (plan_of delays k W)) out

abbrev pub check_answer_c : (delays : List ℕ) (k W : ℕ) (out : Bytes) → ℕ
check_answer_c delays k W out = lent_answer (number_of (answer_of delays k W)) 1 out

abbrev pub check_byte_c : (delays : List ℕ) (k W : ℕ) (set : List ℕ) (out : Bytes) → Bytes
check_byte_c delays k W set out = lent_bytes (number_of (answer_of delays k W)) 1 (one_if (checked_of delays k W set).accepted ∷ []) out
