-- A flag turned into a byte by the library's From is one where it is set, as `one_if` has it.
use Rattle.std.specs.Prelude.{◌≡◌, refl, Bool, true, false}
use mir.Val.{bool_byte}
use Rattle.ground.specs.Flags.{one_if}

pub byte_of_flag : (b : Bool) → bool_byte b ≡ one_if b
byte_of_flag true = refl
byte_of_flag false = refl
