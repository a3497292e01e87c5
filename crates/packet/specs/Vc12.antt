-- VC-12's packet (request 2026-01): 'one bit a frame', '32 bits in order', in the lowest bit of each frame's byte.
use Rattle.std.specs.Prelude.{ℕ, ◌+◌, ◌-◌, ◌/◌, ◌%◌, ◌^◌, Bool, true, false, List, [], ◌∷◌, ◌++◌, length, take, drop, slice_index, slice_index_or, if◌then◌else◌, ◌==◌, Ok, Err}
use Rattle.ground.specs.Bits.{bits, number, odd}
use Rattle.ground.specs.Finite.{same_bits}
use Rattle.ground.specs.Polynomial.{check, sealed}
use Rattle.ground.specs.Table.{tabulate}
use Rattle.ground.specs.Types.{Bytes}
use Rattle.packet.specs.declared.layout.Fields.{Fields}
use Rattle.packet.specs.declared.reader.Unread.TheVariants.{Crc, Length}
use Rattle.packet.specs.declared.writer.Unwritten.TheVariants.{Field, Length as Short}
use Rattle.packet.specs.Reading.{read_fields, Reading}
use Rattle.packet.specs.Writing.{fits_within, Writing}

-- x^3+x+1 without its leading 1
unfoldable pub vc12_divisor : List Bool
vc12_divisor = false ∷ true ∷ true ∷ []

-- '5 multiframe count, 6 SQ, 4 CTRL, GID, 4 reserved, RS-Ack, 8 MST'
unfoldable pub vc12_data : Fields → List Bool
vc12_data f =
    bits 5 f.epoch ++ bits 6 f.sq ++ bits 4 f.word.0 ++ bits 1 f.gid ++ bits 4 f.reserved ++ bits 1 f.rs_ack ++ bits 8 f.mst

-- '3 CRC by x^3+x+1 over the first 29'
unfoldable pub vc12_bits : Fields → List Bool
vc12_bits f = sealed vc12_divisor (vc12_data f)

-- the byte of the frame at a place: its bit, and 2 more in the first, by which 'the host says where it starts'
abbrev pub frame_byte : List Bool → ℕ → ℕ
frame_byte l k = (if k == 0 then 2 else 0) + (if slice_index_or l k false then 1 else 0)

unfoldable pub vc12_bytes : List Bool → Bytes
vc12_bytes l = tabulate 32 (frame_byte l)

-- 8 (01): five bits of count, six of SQ and four reserved ones
unfoldable pub vc12_fits : Fields → Bool
vc12_fits f = fits_within 32 64 16 f

-- 'For writing: 9, 8' (01)
unfoldable pub write_vc12_answer : Fields → Bytes → Writing
write_vc12_answer f s = if length s == 32 then (if vc12_fits f then Ok tt else Err Field) else Err Short

-- the lent bytes afterwards: the packet, or as they were
unfoldable pub write_vc12_bytes : Fields → Bytes → Bytes
write_vc12_bytes f s = if length s == 32 then (if vc12_fits f then vc12_bytes (vc12_bits f) else s) else s

-- n bits from a place on, as a number
abbrev pub number_at : (place n : ℕ) (l : List Bool) → ℕ
number_at place n l = number (take n (drop place l))

-- the fields that 32 bits carry
unfoldable pub vc12_fields : List Bool → Fields
vc12_fields l =
    record {
      epoch = number_at 0 5 l;
      word = record { 0 = number_at 11 4 l };
      gid = number_at 15 1 l;
      mst = number_at 21 8 l;
      rs_ack = number_at 20 1 l;
      sq = number_at 5 6 l;
      reserved = number_at 16 4 l;
    }

-- 'For reading a packet: 9, 5, 7, 6' (01)
unfoldable pub read_vc12_bits : List Bool → Reading
read_vc12_bits l = if same_bits (check vc12_divisor (take 29 l)) (drop 29 l) then read_fields (vc12_fields l) else Err Crc

-- the bits that 32 bytes carry: the lowest of each, and no other is looked at
unfoldable pub lowest_of : Bytes → List Bool
lowest_of s = tabulate 32 (λ k. odd (slice_index s k))

unfoldable pub read_vc12_answer : Bytes → Reading
read_vc12_answer s = if length s == 32 then read_vc12_bits (lowest_of s) else Err Length

-- The receiver keeps sixteen entries of two bits each, the earlier frame's twice as high.
unfoldable pub row_bits : List ℕ → List Bool
row_bits row = tabulate 32 (λ k. odd (slice_index row (k / 2) / 2 ^ (1 - k % 2)))

unfoldable pub read_vc12_row : List ℕ → Reading
read_vc12_row row = read_vc12_bits (row_bits row)
