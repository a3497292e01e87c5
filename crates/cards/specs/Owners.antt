-- The owner row: 0 nobody, 1 group 0, 2 group 1; any other byte counts as nobody. 'Each slot is owned by at most one group' (02, 2026-06) by its form.
use Rattle.std.specs.Prelude.{Bool, ◌&&◌, ◌||◌, List, ℕ, get_or, if◌then◌else◌, ◌==◌}
use Rattle.ground.specs.Flags.{one_if}
use Rattle.ground.specs.Plain.{◌<?◌}
use Rattle.ground.specs.Table.{tabulate}
use Rattle.ground.specs.Types.{Bytes}

abbrev pub mark_of : ℕ → ℕ
mark_of g = if g == 0 then 1 else 2

abbrev pub owner_in : List ℕ → ℕ → ℕ
owner_in row i = get_or row i 0

abbrev pub is_marked : (row : List ℕ) (group slot : ℕ) → Bool
is_marked row g i = owner_in row i == mark_of g

-- owned by anyone
abbrev pub has_owner : List ℕ → ℕ → Bool
has_owner row i = owner_in row i == 1 || owner_in row i == 2

-- the row with another owner of slot i
unfoldable pub with_owner : (row : List ℕ) (slot mark : ℕ) → List ℕ
with_owner row i m = tabulate 64 (λ j. if j == i then m else owner_in row j)

-- a byte a slot: 1 where the group owns it
unfoldable pub owned_bytes : List ℕ → ℕ → Bytes
owned_bytes row g = tabulate 64 (λ i. one_if (g <? 2 && is_marked row g i))
