-- 'CRC: the 56 data bits, first bit highest, times x^8, remainder modulo 2 by x^8+x^2+x+1, start value 0.' (01, 'The control packet')
use Rattle.std.specs.Prelude.{ℕ, Bool, true, false, List, [], ◌∷◌, ◌++◌}
use Rattle.ground.specs.Bits.{bits, number}
use Rattle.ground.specs.Polynomial.{check}

-- x^8+x^2+x+1 without its leading 1
unfoldable pub divisor : List Bool
divisor = false ∷ false ∷ false ∷ false ∷ false ∷ true ∷ true ∷ true ∷ []

unfoldable pub nibble_bits : ℕ → List Bool
nibble_bits n = bits 4 n

-- the bits that nibbles carry, the first nibble's first
abbrev pub bits_of : List ℕ → List Bool
bits_of [] = []
bits_of (n ∷ ns) = nibble_bits n ++ bits_of ns

unfoldable pub crc_of : List ℕ → ℕ
crc_of nibbles = number (check divisor (bits_of nibbles))
