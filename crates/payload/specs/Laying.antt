-- Bytes laid into a slice.
use Rattle.std.specs.Prelude.{ℕ, ◌+◌, length, get_or, if◌then◌else◌}
use Rattle.ground.specs.Drawn.{fill_at}
use Rattle.ground.specs.Plain.{◌≤?◌}
use Rattle.ground.specs.Types.{Bytes}

-- The bytes from a place on. Those that would go beyond the end leave the slice as it was.
abbrev pub laid : (place : ℕ) (from to : Bytes) → Bytes
laid place from to = if place + length from ≤? length to then fill_at place (length from) (λ j. get_or from j 0) to else to
