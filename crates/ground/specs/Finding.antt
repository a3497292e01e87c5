-- Where a byte first stands in a list.
use Rattle.std.specs.Prelude.{ℕ, suc, Bool, true, false, List, [], ◌∷◌, ◌==◌}

unfoldable pub index_after : Bool → ℕ → ℕ
index_after true n = 0
index_after false n = suc n

-- the length, where it stands nowhere
unfoldable pub index_of : (mark : ℕ) → List ℕ → ℕ
index_of mark [] = 0
index_of mark (byte ∷ bytes) = index_after (byte == mark) (index_of mark bytes)
