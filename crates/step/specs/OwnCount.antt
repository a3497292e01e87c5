-- A packet by the receiver's own count (request 2026-04), and by the kind of packet (requests 2026-01 and 2026-12). Of VC-12 the step rule has the count of each packet, and 'keeps its step rule'.
use Rattle.std.specs.Prelude.{Bool, not, ◌&&◌, ◌||◌, List, ℕ, if◌then◌else◌, ◌==◌}
use Rattle.ground.specs.Types.{Epoch, Tag}
use Rattle.packet.specs.declared.ruling.Ruling.{Ruling}
use Rattle.packet.specs.Fixed.{fixed_ruling_of}
use Rattle.packet.specs.Kinds.{epoch_of, fixed_kind, place_of, vc12_kind}
use Rattle.packet.specs.Layout.{fields_of}
use Rattle.packet.specs.Reading.{read_nibbles, reading_number}
use Rattle.packet.specs.Ruling.{refused, ruling_of}
use Rattle.packet.specs.Symbols.{with_symbol}
use Rattle.step.specs.Run.{ends_packet}

-- VC-12 carries no MFI2 for the own count to be held against: 'This is for H4 alone'
abbrev pub without_mfi2 : ℕ → Bool
without_mfi2 kind = kind == vc12_kind

-- the packet's MFI2 is the number of its epoch by that count
unfoldable pub own_number : Epoch → List ℕ → Bool
own_number epoch nibbles = (fields_of nibbles).epoch == epoch

-- the packet read by its kind
unfoldable pub ruling_in : (kind : ℕ) (epoch : Epoch) (nibbles : List ℕ) → Ruling
ruling_in kind epoch nibbles = if kind == fixed_kind then fixed_ruling_of nibbles else ruling_of kind epoch nibbles

-- 'a packet whose carried MFI2 differs from that count is treated as a CRC difference'
unfoldable pub own_ruling : (kind : ℕ) (epoch : Epoch) (nibbles : List ℕ) → Ruling
own_ruling kind epoch nibbles = if without_mfi2 kind || own_number epoch nibbles then ruling_in kind epoch nibbles else refused

-- 5 is 'CRC differs'. Of a fixed group 'no CRC is checked': each packet counts as one of right CRC.
unfoldable pub right_crc : ℕ → List ℕ → Bool
right_crc kind nibbles = kind == fixed_kind || not (reading_number (read_nibbles nibbles) == 5)

-- 'right CRC and a differing MFI2'. The word is not looked at.
unfoldable pub odd_packet : (kind : ℕ) (epoch : Epoch) (nibbles : List ℕ) → Bool
odd_packet kind epoch nibbles = not (without_mfi2 kind) && right_crc kind nibbles && not (own_number epoch nibbles)

-- whether the frame with this tag ends an odd packet, the one being gathered with the frame's symbol put in
unfoldable pub ends_odd : (kind : ℕ) (gathering : List ℕ) (tag : Tag) (h4 : ℕ) → Bool
ends_odd kind gathering tag h = ends_packet kind tag && odd_packet kind (epoch_of kind tag) (with_symbol kind gathering (place_of kind tag) h)
