-- Bytes, nibbles and their bits.
use Rattle.std.specs.Prelude.{◌≡◌, ℕ, ◌*◌, ◌/◌, ◌%◌, ◌<◌, List, [], ◌∷◌, ◌++◌, length, refl}
use Rattle.std.proofs.Common.{◌∙◌, sym, ap, ap₂, append_assoc, arith, length-append}
use Rattle.ground.specs.Bits.{bits, bits_split, bits_mod, bits_number, number_lt}
use Rattle.ground.specs.Division.{length_check}
use Rattle.ground.specs.Polynomial.{check}
use Rattle.packet.specs.Crc.{divisor, nibble_bits, bits_of, crc_of}
use Rattle.packet.specs.Layout.{byte_of}

-- a byte's bits are its two nibbles'
pub byte_bits : (a b : ℕ) → bits 8 (byte_of a b) ≡ nibble_bits a ++ nibble_bits b
unfolding nibble_bits
byte_bits a b =
    bits_split 4 4 (byte_of a b)
    ∙ ap₂ ◌++◌ (ap (λ (n : ℕ). bits 4 n) high ∙ bits_mod 4 a) (sym (bits_mod 4 (byte_of a b)) ∙ ap (λ (n : ℕ). bits 4 n) low ∙ bits_mod 4 b)
  where
    high : byte_of a b / 16 ≡ a % 16
    high = omega arith

    low : byte_of a b % 16 ≡ b % 16
    low = omega arith

pub bits_append : (ms ns : List ℕ) → bits_of (ms ++ ns) ≡ bits_of ms ++ bits_of ns
bits_append [] ns = refl
bits_append (m ∷ ms) ns = ap (λ l. nibble_bits m ++ l) (bits_append ms ns) ∙ sym (append_assoc (nibble_bits m) (bits_of ms) (bits_of ns))

pub length_bits_of : (ns : List ℕ) → length (bits_of ns) ≡ length ns * 4
unfolding nibble_bits
length_bits_of [] = refl
length_bits_of (n ∷ ns) = let h = length_bits_of ns in length-append (nibble_bits n) (bits_of ns) ∙ (omega arith)

-- the CRC's bits are the check's
pub crc_bits : (d : List ℕ) → bits 8 (crc_of d) ≡ check divisor (bits_of d)
unfolding crc_of divisor
crc_bits d = ap (λ (n : ℕ). bits n (crc_of d)) (sym (length_check divisor (bits_of d))) ∙ bits_number (check divisor (bits_of d))

pub crc_lt : (d : List ℕ) → crc_of d < 256
unfolding crc_of divisor
crc_lt d = rw (length_check divisor (bits_of d)) at (number_lt (check divisor (bits_of d)))

-- a byte is what its two nibbles spell
pub byte_back : (n : ℕ) → n < 256 → byte_of (n / 16) (n % 16) ≡ n
byte_back n h = omega arith
