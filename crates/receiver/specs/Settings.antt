-- What a receiver was started with, for a host that was handed its state.
use Rattle.std.specs.Prelude.{Bool, ◌&&◌, List, [], ◌∷◌, ℕ, length, if◌then◌else◌, ◌==◌}
use Rattle.ground.specs.Types.{Rows}
use Rattle.phases.specs.Sizes.{ports_in}
use Rattle.receiver.specs.Lengths.{rows_fit}
use Rattle.rows.specs.declared.group.Group.{Group}
use Rattle.rows.specs.Group.{group_at}

-- the kind of its packets, its ports, P and W; four zeros for an empty group
unfoldable pub settings_of : (g : Group) (n : ℕ) → List ℕ
settings_of g n = if n == 0 then 0 ∷ 0 ∷ 0 ∷ 0 ∷ [] else g.kind ∷ n ∷ g.payload ∷ g.window ∷ []

unfoldable pub settings_fit : (n : ℕ) (rows : ℕ) (out : ℕ) → Bool
settings_fit n rows out = rows_fit n rows && out == 4

unfoldable pub settings_answer : (s : Rows) (out : ℕ) → ℕ
settings_answer s out = if settings_fit (ports_in (group_at s)) (length s) out then 0 else 9

unfoldable pub settings_out : (s : Rows) (out : List ℕ) → List ℕ
settings_out s out =
    if settings_fit (ports_in (group_at s)) (length s) (length out)
    then settings_of (group_at s) (ports_in (group_at s))
    else out
