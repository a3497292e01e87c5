-- What one frame's byte says of its count. Of H4 (01, 'The control packet'): 'bits 5 to 8 are MFI1', 'Bits 1 to 4 .. carry a nibble by MFI1: 0 MFI2 high, 1 MFI2 low'. Of VC-12 (request 2026-01): the count's bit, and whether the packet starts with it.
use Rattle.std.specs.Prelude.{ℕ, ◌+◌, ◌-◌, ◌*◌, ◌/◌, ◌%◌, ◌^◌, Bool, not, ◌&&◌, ◌||◌, if◌then◌else◌, ◌==◌}
use Rattle.ground.specs.Plain.{◌<?◌}
use Rattle.ground.specs.Types.{Tag}
use Rattle.packet.specs.Kinds.{tag_of, vc12_kind}

-- H4: the first frame of a multiframe, MFI1 is 0
unfoldable pub starts_count : ℕ → ℕ → Bool
starts_count kind h = h % 16 == 0

-- the tag after it, as far as it tells: MFI2's high nibble
unfoldable pub tag_by_high : ℕ → ℕ → Tag
tag_by_high kind h = h / 16 % 16 * 256 + 1

-- the second frame of a multiframe: MFI1 is 1
unfoldable pub carries_low : ℕ → ℕ → Bool
carries_low kind h = h % 16 == 1

-- the tag after it, with MFI2's low nibble from this frame and its high one from the frame before
unfoldable pub tag_by_low : (kind : ℕ) (tag : Tag) (h4 : ℕ) → Tag
tag_by_low kind t h = t / 256 % 16 * 256 + h / 16 % 16 * 16 + 2

-- a frame that counts as the tag t says: MFI1 in every frame, MFI2's high nibble at MFI1 0, its low one at MFI1 1
unfoldable pub h4_counts : ℕ → ℕ → Bool
h4_counts t h =
    h % 16 == t % 16
    && (not (t % 16 == 0) || h / 16 == t / 256 % 16)
    && (not (t % 16 == 1) || h / 16 == t / 16 % 16)

-- VC-12: 'the host says where it starts', by 2 beside the bit
unfoldable pub says_start : ℕ → Bool
says_start h = h / 2 % 2 == 1

-- what the bits of a count say up to that at a place: all five of them from place 4 on
unfoldable pub told_bits : ℕ → ℕ → ℕ
told_bits count place = count / 2 ^ (4 - place)

-- a frame that counts as the tag t says: a start exactly at place 0, and at places 0 to 4 the bit of the count
unfoldable pub vc12_counts : ℕ → ℕ → Bool
vc12_counts t h =
    (if t % 32 == 0 then says_start h else not (says_start h))
    && (not (t % 32 <? 5) || h % 2 == told_bits (t % 1024 / 32) (t % 32) % 2)

unfoldable pub counts : (kind : ℕ) (tag : Tag) (h4 : ℕ) → Bool
counts kind t h = if kind == vc12_kind then vc12_counts t h else h4_counts t h

-- what the first frame of a run tells of the tag to come
unfoldable pub told_first : ℕ → ℕ → ℕ
told_first kind x = tag_of kind x / 256 * 256 + 1
