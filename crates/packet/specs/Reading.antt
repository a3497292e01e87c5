-- A packet read (01, 'Answer numbers').
use Rattle.std.specs.Prelude.{ℕ, List, [], ◌∷◌, length, take, if◌then◌else◌, ◌==◌, Result, Ok, Err}
use Rattle.ground.specs.Refusals.{number_told}
use Rattle.ground.specs.Types.{Bytes}
use Rattle.packet.specs.declared.layout.Fields.{Fields}
use Rattle.packet.specs.declared.reader.Unread.{Unread}
use Rattle.packet.specs.declared.reader.Unread.TheVariants.{Length, Crc, Fixed, Unassigned}
use Rattle.packet.specs.Crc.{crc_of}
use Rattle.packet.specs.Layout.{carried_in, fields_of, highs_of}
use Rattle.packet.specs.Words.{FIXED, assigned}

-- the fields of a packet, or why there is none
abbrev pub Reading : Type 0
Reading = Result Fields Unread

-- 01's number for each answer
abbrev pub unread_number : Unread → ℕ
unread_number Length = 9
unread_number Crc = 5
unread_number Fixed = 7
unread_number Unassigned = 6

abbrev pub reading_number : Reading → ℕ
reading_number = number_told unread_number

-- and its values: 'no packet' under a refusal
abbrev pub reading_values : Reading → List ℕ
reading_values (Ok f) = f.epoch ∷ f.word.0 ∷ f.gid ∷ f.mst ∷ f.rs_ack ∷ f.sq ∷ f.reserved ∷ []
reading_values (Err u) = []

-- 'For reading a packet: 9, 5, 7, 6'. Of the fields of one whose CRC is right: 7, 6.
abbrev pub read_fields : Fields → Reading
read_fields f = if f.word.0 == FIXED then Err Fixed else if assigned f.word then Ok f else Err Unassigned

-- of sixteen nibbles whose data have this CRC: 5 first
abbrev pub read_under : (crc : ℕ) (nibbles : List ℕ) → Reading
read_under crc ns = if crc == carried_in ns then read_fields (fields_of ns) else Err Crc

unfoldable pub read_nibbles : List ℕ → Reading
read_nibbles ns = read_under (crc_of (take 14 ns)) ns

unfoldable pub read_answer : Bytes → Reading
read_answer s = if length s == 16 then read_nibbles (highs_of s) else Err Length
