-- 'the share of each byte value at each of the seven places' (request 2026-02): the CRC of the seven data bytes that are 0 but for one. The bytes pair the nibbles 0 and 1, 2 and 3, .. 12 and 13.
use Rattle.std.specs.Prelude.{ℕ, zero, suc, ◌+◌, ◌-◌, ◌*◌, ◌/◌, ◌%◌, List, [], ◌∷◌, ◌++◌, replicate, bit_xor, slice_index, slice_index_or}
use Rattle.ground.specs.Table.{tabulate}
use Rattle.packet.specs.Crc.{crc_of}
use Rattle.packet.specs.Layout.{byte_of}

-- fourteen nibbles that are 0 but for the two of a byte at a place
abbrev pub alone_at : ℕ → ℕ → List ℕ
alone_at p v = replicate (p * 2) 0 ++ ((v / 16) ∷ (v % 16) ∷ replicate (12 - p * 2) 0)

unfoldable pub share_of : ℕ → ℕ → ℕ
share_of p v = crc_of (alone_at p v)

-- the byte at a place of a packet's nibbles
abbrev pub byte_at : List ℕ → ℕ → ℕ
byte_at ns p = byte_of (slice_index ns (p * 2)) (slice_index ns (p * 2 + 1))

-- the nibbles of bytes, the higher of each first
abbrev pub halves_of : List ℕ → List ℕ
halves_of [] = []
halves_of (b ∷ bs) = (b / 16) ∷ (b % 16) ∷ halves_of bs

-- 'and join the shares': those of the bytes at the first places, by a rule for a share, summed modulo 2 bit by bit
abbrev pub joined_by : (share : ℕ → ℕ → ℕ) (byte : ℕ → ℕ) (places : ℕ) → ℕ
joined_by share byte zero = 0
joined_by share byte (suc p) = bit_xor (joined_by share byte p) (share p (byte p))

unfoldable pub joined_to : ℕ → List ℕ → ℕ
joined_to p ns = joined_by share_of (byte_at ns) p

-- 'Constant table, seven places by 256 values' (01)
unfoldable pub shares_of : List (List ℕ)
shares_of = tabulate 7 (λ p. tabulate 256 (share_of p))

-- the share that a table has
abbrev pub share_in : (table : List (List ℕ)) (place value : ℕ) → ℕ
share_in table p v = slice_index (slice_index_or table p []) v
