-- Fixed groups (request 2026-12): 'H4 carries MFI1, MFI2 and SQ in their places. All other nibbles are written zero and, but for the control word, not looked at in reading; no CRC is checked.'
use Rattle.std.specs.Prelude.{ℕ, ◌/◌, ◌%◌, Bool, ◌&&◌, List, [], ◌∷◌, length, slice_index, if◌then◌else◌, ◌==◌, Ok, Err}
use Rattle.ground.specs.Plain.{◌<?◌}
use Rattle.ground.specs.Types.{Bytes, Epoch}
use Rattle.packet.specs.declared.layout.Fields.{Fields}
use Rattle.packet.specs.declared.reader.Unread.TheVariants.{Length, Unassigned}
use Rattle.packet.specs.declared.ruling.Ruling.{Ruling}
use Rattle.packet.specs.declared.writer.Unwritten.TheVariants.{Length as Short, Field}
use Rattle.packet.specs.Layout.{byte_of, h4_of, highs_of}
use Rattle.packet.specs.Ruling.{ruling_by}
use Rattle.packet.specs.Words.{FIXED}
use Rattle.packet.specs.Reading.{Reading}
use Rattle.packet.specs.Writing.{Writing}

-- The sixteen nibbles in the order of sending: MFI2 and SQ in their places, the word FIXED, and by their places those that are 'not looked at in reading', whatever a neighbour puts there.
unfoldable pub fixed_nibbles_with : (unread : ℕ → ℕ) (epoch : Epoch) (sq : ℕ) → List ℕ
fixed_nibbles_with unread epoch sq =
    unread 0
    ∷ unread 1
    ∷ unread 2
    ∷ unread 3
    ∷ unread 4
    ∷ unread 5
    ∷ (sq / 16)
    ∷ (sq % 16)
    ∷ (epoch / 16)
    ∷ (epoch % 16)
    ∷ FIXED
    ∷ unread 11
    ∷ unread 12
    ∷ unread 13
    ∷ unread 14
    ∷ unread 15
    ∷ []

-- 'All other nibbles are written zero'
unfoldable pub fixed_nibbles : Epoch → ℕ → List ℕ
fixed_nibbles epoch sq = fixed_nibbles_with (λ place. 0) epoch sq

-- what they say: the word FIXED, and 0 in every field but two
abbrev pub fixed_fields : Epoch → ℕ → Fields
fixed_fields epoch sq = record { epoch = epoch; word = record { 0 = FIXED }; gid = 0; mst = 0; rs_ack = 0; sq = sq; reserved = 0 }

abbrev pub fixed_fits : Epoch → ℕ → Bool
fixed_fits epoch sq = epoch <? 256 && sq <? 256

-- 'For writing: 9, 8' (01); 'the word FIXED is no cause for 8'
unfoldable pub write_fixed_answer : (epoch : Epoch) (sq : ℕ) (s : Bytes) → Writing
write_fixed_answer epoch sq s = if length s == 16 then (if fixed_fits epoch sq then Ok tt else Err Field) else Err Short

-- the lent H4 bytes afterwards: the packet, or as they were
unfoldable pub write_fixed_bytes : (epoch : Epoch) (sq : ℕ) (s : Bytes) → Bytes
write_fixed_bytes epoch sq s = if length s == 16 then (if fixed_fits epoch sq then h4_of (fixed_nibbles epoch sq) else s) else s

-- 'Number 7 is not given; a word other than FIXED is 6.'
unfoldable pub read_fixed_nibbles : List ℕ → Reading
read_fixed_nibbles ns =
    if slice_index ns 10 % 16 == FIXED
    then Ok (fixed_fields (byte_of (slice_index ns 8) (slice_index ns 9)) (byte_of (slice_index ns 6) (slice_index ns 7)))
    else Err Unassigned

unfoldable pub read_fixed_answer : Bytes → Reading
read_fixed_answer s = if length s == 16 then read_fixed_nibbles (highs_of s) else Err Length

-- what it rules; whether it is of the receiver's own epoch is the step rule's to judge (request 2026-04)
unfoldable pub fixed_ruling_of : List ℕ → Ruling
fixed_ruling_of ns = ruling_by (read_fixed_nibbles ns)
