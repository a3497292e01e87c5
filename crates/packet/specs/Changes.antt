-- What a line may change of a packet, and what it never does (demand 3; requests 2026-01, 2026-04 and 2026-12). By the kind of packet, as in Kinds: lines and transport know a frame by these words alone.
use Rattle.std.specs.Prelude.{ℕ, ◌+◌, ◌*◌, ◌/◌, ◌%◌, Bool, not, ◌&&◌, ◌||◌, List, if◌then◌else◌, ◌==◌}
use Rattle.ground.specs.Plain.{◌<?◌}
use Rattle.ground.specs.Polynomial.{bits_apart}
use Rattle.packet.specs.Crc.{bits_of}
use Rattle.packet.specs.Kinds.{fixed_kind, lead, vc12_kind}
use Rattle.packet.specs.Layout.{highs_of}
use Rattle.packet.specs.Vc12.{lowest_of}

-- what of the frame at a place of its packet is never changed. Of H4 'MFI1 still coming as sent'; of VC-12 'outside the count, every start said rightly'.
unfoldable pub kept_part : (kind place h4 : ℕ) → ℕ
kept_part kind place h = if kind == vc12_kind then (if place <? 5 then h % 4 else h / 2 % 2 * 2) else h % 16

-- the frame at a place brings a nibble of MFI2, the high or the low one, which 'demand 3 .. spares .. only until receiving begins'. No frame of VC-12 does.
unfoldable pub brings_mfi2 : ℕ → ℕ → Bool
brings_mfi2 kind place = not (kind == vc12_kind) && (place == lead kind || place == lead kind + 1)

-- in how many of its 64 bits an H4 packet arrived otherwise than it was sent, both as H4 bytes
abbrev pub changed_bits : List ℕ → List ℕ → ℕ
changed_bits sent came = bits_apart (bits_of (highs_of sent)) (bits_of (highs_of came))

-- in how many bits of its symbols a packet did, both as bytes, one a frame
unfoldable pub changed : (kind : ℕ) (sent came : List ℕ) → ℕ
changed kind sent came = if kind == vc12_kind then bits_apart (lowest_of sent) (lowest_of came) else changed_bits sent came

-- 'with one to three bits changed'; of VC-12 'with one changed bit at most'; of a fixed group 'no changed bit at all, since nothing detects one'
unfoldable pub most_changes : ℕ → ℕ
most_changes kind = if kind == vc12_kind then 1 else if kind == fixed_kind then 0 else 3
