-- Flags as bytes.
use Rattle.std.specs.Prelude.{Bool, not, ℕ, if◌then◌else◌, ◌==◌}

-- a flag byte other than 0 counts as set
abbrev pub flag_of : ℕ → Bool
flag_of byte = not (byte == 0)

-- one for each that passes a test
abbrev pub one_if : Bool → ℕ
one_if test = if test then 1 else 0
