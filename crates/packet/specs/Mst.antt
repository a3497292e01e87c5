-- Of which numbers MST speaks.
use Rattle.std.specs.Prelude.{◌≡◌, ℕ, ◌+◌, ◌<◌}
use Rattle.packet.specs.Kinds.{mst_first, mst_numbers}

-- MST of epoch e speaks of q: it is one of the numbers from the first on
pub record Spoken (kind e q : ℕ) : Type 0 where
  pub place : ℕ
  pub below : place < mst_numbers kind
  pub is : mst_first kind e + place ≡ q
