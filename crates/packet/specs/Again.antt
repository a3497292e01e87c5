-- What reads well is written again identically (request 2026-08): the bytes of which that is said, and what is written of a packet that was read.
use Rattle.std.specs.Prelude.{◌≡◌, ℕ, ◌+◌, ◌/◌, ◌%◌, ◌<◌, slice_index, Ok}
use Rattle.ground.specs.Types.{Bytes}
use Rattle.packet.specs.Crc.{bits_of}
use Rattle.packet.specs.Layout.{highs_of}
use Rattle.packet.specs.Vc12.{lowest_of, write_vc12_answer, write_vc12_bytes}
use Rattle.packet.specs.Writing.{write_answer, write_bytes}
use Rattle.packet.specs.declared.layout.Fields.{Fields}

-- bytes whose low nibbles are the MFI1 of their places, 8 to 15 and then 0 to 7
pub record Counted (s : Bytes) : Type 0 where
  pub byte : (k : ℕ) → k < 16 → slice_index s k < 256
  pub count : (k : ℕ) → k < 16 → slice_index s k % 16 ≡ (k + 8) % 16

-- what is written of a packet that was read
pub record Again (s t : Bytes) (f : Fields) : Type 0 where
  pub answer : write_answer f t ≡ Ok tt
  pub bits : bits_of (highs_of (write_bytes f t)) ≡ bits_of (highs_of s)

-- VC-12: bytes as a host hands them in: the bit, and 2 more in the first
pub record Started (s : Bytes) : Type 0 where
  pub first : slice_index s 0 / 2 ≡ 1
  pub others : (k : ℕ) → 0 < k → k < 32 → slice_index s k < 2

-- VC-12: what is written of a packet that was read
pub record Vc12Again (s t : Bytes) (f : Fields) : Type 0 where
  pub answer : write_vc12_answer f t ≡ Ok tt
  pub bits : lowest_of (write_vc12_bytes f t) ≡ lowest_of s
