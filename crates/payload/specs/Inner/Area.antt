-- A slice from a place on, seen as lines of X bytes each: which of its places lie in some lines and columns.
-- Loops that go by members or by blocks store there, and not from the front.
use Rattle.std.specs.Prelude.{Bool, ◌&&◌, ℕ, ◌-◌, ◌/◌, ◌%◌}
use Rattle.ground.specs.Drawn.{within}
use Rattle.ground.specs.Plain.{◌≤?◌}

-- k lies in one of the n lines from l on and in one of the m columns from c on
unfoldable pub area : (X place l n c m k : ℕ) → Bool
area X place l n c m k = place ≤? k && (within l n ((k - place) / X) && within c m ((k - place) % X))
