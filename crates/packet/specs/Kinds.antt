-- Epochs, tags and MST (01, 'The control packet'), by the kind of packet. H4 and FIXED (request 2026-12) have one clock, VC-12 (request 2026-01) another; any other number counts as H4.
use Rattle.std.specs.Prelude.{ℕ, zero, suc, ◌+◌, ◌-◌, ◌*◌, ◌/◌, ◌%◌, ◌^◌, Bool, not, ◌||◌, if◌then◌else◌, ◌==◌}
use Rattle.ground.specs.Bits.{odd}
use Rattle.ground.specs.Circle.{after}
use Rattle.ground.specs.Types.{Epoch, Tag}

abbrev pub vc12_kind : ℕ
vc12_kind = 1

abbrev pub fixed_kind : ℕ
fixed_kind = 2

unfoldable pub known_kind : ℕ → Bool
known_kind kind = kind == 0 || kind == vc12_kind || kind == fixed_kind

-- 'The sixteen frames are an epoch'; of VC-12 'An epoch is 32 frames, also wherever 01 says sixteen'
unfoldable pub frames : ℕ → ℕ
frames kind = if kind == vc12_kind then 32 else 16

-- 'named by the MFI2 in it. Epoch 255 is followed by epoch 0'; VC-12 has '5 multiframe count'
unfoldable pub epochs : ℕ → ℕ
epochs kind = if kind == vc12_kind then 32 else 256

-- 'A frame's tag is 16 x MFI2 + MFI1, from 0 to 4,095'; of VC-12 'Tags run 0 to 1,023'
unfoldable pub tags : ℕ → ℕ
tags kind = if kind == vc12_kind then 1024 else 4096

-- 'from MFI1 8 to 15 and on to 0 to 7 of the next multiframe': how many frames of an epoch stand before its MFI1 0. VC-12's starts with its count.
unfoldable pub lead : ℕ → ℕ
lead kind = if kind == vc12_kind then 0 else 8

unfoldable pub epoch_after : ℕ → Epoch → Epoch
epoch_after kind e = (e + 1) % epochs kind

-- '4,095 is followed by 0'
unfoldable pub tag_after : ℕ → Tag → Tag
tag_after kind t = (t + 1) % tags kind

unfoldable pub tag_before : ℕ → Tag → Tag
tag_before kind t = (t + (tags kind - 1)) % tags kind

-- the tag of the x-th frame after one with tag 0
abbrev pub tag_of : ℕ → ℕ → Tag
tag_of kind x = x % tags kind

-- by the tag to come, the tag of the frame that came so many before the latest
abbrev pub tag_back : (kind next distance : ℕ) → ℕ
tag_back kind next zero = tag_before kind next
tag_back kind next (suc d) = tag_before kind (tag_back kind next d)

-- how many frames the tag a lies after the tag b
unfoldable pub distance_of : (kind : ℕ) (a b : Tag) → ℕ
distance_of kind a b = after (tags kind) a b

-- the place of a tag's frame in its epoch
unfoldable pub place_of : ℕ → Tag → ℕ
place_of kind t = (t + lead kind) % frames kind

unfoldable pub starts_epoch : ℕ → Tag → Bool
starts_epoch kind t = place_of kind t == 0

unfoldable pub epoch_of : ℕ → Tag → Epoch
epoch_of kind t = (t + lead kind) % tags kind / frames kind

-- Of a frame by how far it lies after an epoch's first: how many epochs later it is, and whether it is the last one of its epoch.
unfoldable pub epochs_in : ℕ → ℕ → ℕ
epochs_in kind d = d / frames kind % epochs kind

unfoldable pub ends_epoch : ℕ → ℕ → Bool
ends_epoch kind d = d % frames kind == frames kind - 1

-- the tag with which an epoch starts
unfoldable pub first_tag : ℕ → Epoch → Tag
first_tag kind e = (e * frames kind + (tags kind - lead kind)) % tags kind

-- how many epochs MST takes to speak of every number
unfoldable pub mst_epochs : ℕ → ℕ
mst_epochs kind = if kind == vc12_kind then 8 else 32

-- 'MST in epoch e speaks of numbers 8 x (e mod 32)', of VC-12 'of numbers 8 x (count mod 8) onward': the first of them
unfoldable pub mst_first : ℕ → Epoch → ℕ
mst_first kind e = 8 * (e % mst_epochs kind)

-- 'to that plus 7': how many numbers these are
unfoldable pub mst_numbers : ℕ → ℕ
mst_numbers kind = 8

-- 'first bit the lowest. 0 is OK, 1 is FAIL', of a number that the epoch speaks of
unfoldable pub mst_fails : ℕ → ℕ → Bool
mst_fails mst q = odd (mst / 2 ^ (7 - q % 8))

-- 'IDLE (number 255)' (01, 'The sender's table'); of VC-12 'idle SQ is 63'
unfoldable pub idle_number : ℕ → ℕ
idle_number kind = if kind == vc12_kind then 63 else 255

-- how many bytes of payload a member frame may have, among those that any group may: VC-12's 'P is 136'
unfoldable pub payload_right : ℕ → ℕ → Bool
payload_right kind P = not (kind == vc12_kind) || P == 136
