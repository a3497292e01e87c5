-- A packet written (01, 'Answer numbers').
use Rattle.std.specs.Prelude.{ℕ, ◌^◌, Bool, not, ◌&&◌, length, if◌then◌else◌, ◌==◌, Result, Ok, Err, ⊤}
use Rattle.ground.specs.Plain.{◌<?◌}
use Rattle.ground.specs.Refusals.{number_told}
use Rattle.ground.specs.Types.{Bytes}
use Rattle.packet.specs.declared.layout.Fields.{Fields}
use Rattle.packet.specs.declared.writer.Unwritten.{Unwritten}
use Rattle.packet.specs.declared.writer.Unwritten.TheVariants.{Length, Field}
use Rattle.packet.specs.Layout.{nibbles_of, h4_of}
use Rattle.packet.specs.Words.{FIXED, assigned}

-- written, or why nothing was
abbrev pub Writing : Type 0
Writing = Result ⊤ Unwritten

-- 01's number for each answer
abbrev pub unwritten_number : Unwritten → ℕ
unwritten_number Length = 9
unwritten_number Field = 8

abbrev pub writing_number : Writing → ℕ
writing_number = number_told unwritten_number

-- 8: 'a field given for writing is too large, or its word is FIXED or unassigned', by how many epochs, numbers and values of the reserved bits a packet has room for
abbrev pub fits_within : (epochs numbers values : ℕ) (f : Fields) → Bool
fits_within epochs numbers values f =
    f.mst <? 256
    && f.epoch <? epochs
    && f.sq <? numbers
    && f.gid <? 2
    && f.rs_ack <? 2
    && f.reserved <? values
    && not (f.word.0 == FIXED)
    && assigned f.word

unfoldable pub fitting : Fields → Bool
fitting f = fits_within 256 256 (2 ^ 26) f

-- 'For writing: 9, 8.'
unfoldable pub write_answer : Fields → Bytes → Writing
write_answer f s = if length s == 16 then (if fitting f then Ok tt else Err Field) else Err Length

-- the lent H4 bytes afterwards: the packet, or as they were
unfoldable pub write_bytes : Fields → Bytes → Bytes
write_bytes f s = if length s == 16 then (if fitting f then h4_of (nibbles_of f) else s) else s
