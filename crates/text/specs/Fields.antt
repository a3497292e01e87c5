-- What a field says.
use Rattle.std.specs.Prelude.{Bool, true, ◌&&◌, List, [], ◌∷◌, ℕ, ◌+◌, ◌-◌, ◌*◌, length, if◌then◌else◌, ◌==◌, Option, Some, None}
pub use Rattle.ground.specs.Finite.{same_bytes}
use Rattle.ground.specs.Plain.{◌<?◌, ◌≤?◌}
use Rattle.ground.specs.Types.{Bytes}

-- the value of a digit in ASCII, 0 to 9 and A to F, 'either case'; 16 for any other byte
unfoldable pub digit_of : ℕ → ℕ
digit_of b = if 48 ≤? b && b ≤? 57 then b - 48 else if 65 ≤? b && b ≤? 70 then b - 55 else if 97 ≤? b && b ≤? 102 then b - 87 else 16

-- whether each byte is a digit below the base
abbrev pub are_digits : ℕ → List ℕ → Bool
are_digits base [] = true
are_digits base (b ∷ digits) = digit_of b <? base && are_digits base digits

-- digits by value, the first one highest, behind those whose value is n
abbrev pub value_of : (base n : ℕ) (digits : List ℕ) → ℕ
value_of base n [] = n
value_of base n (b ∷ digits) = value_of base (n * base + digit_of b) digits

-- a number of one decimal digit or more, at most so many, and nine at the very most
unfoldable pub number_of : ℕ → Bytes → Option ℕ
number_of most field =
    if 0 <? length field && length field ≤? most && length field ≤? 9 && are_digits 10 field then Some (value_of 10 0 field) else None

-- a number of exactly so many hex digits, one to eight
unfoldable pub hex_of : ℕ → Bytes → Option ℕ
hex_of digits field =
    if 0 <? length field && length field == digits && length field ≤? 8 && are_digits 16 field then Some (value_of 16 0 field) else None

-- whether a field is exactly so many hex digits
unfoldable pub is_hex : ℕ → Bytes → Bool
is_hex digits field = length field == digits && are_digits 16 field

-- the bytes that hex digits stand for, two digits a byte
abbrev pub bytes_of : List ℕ → Bytes
bytes_of [] = []
bytes_of (a ∷ []) = []
bytes_of (a ∷ b ∷ digits) = (digit_of a * 16 + digit_of b) ∷ bytes_of digits

-- a lent slice into which a field is read: its bytes, if it has two hex digits for each
unfoldable pub bytes_in : Bytes → Bytes → List ℕ
bytes_in field out = if is_hex (2 * length out) field then bytes_of field else out
