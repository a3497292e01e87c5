-- A frame's line (2026-05): 'port, H4 in two hex digits, fail flag, payload in hex'.
use Rattle.std.specs.Prelude.{◌≡◌, List, [], ◌∷◌, Bool, true, false, ◌&&◌, ℕ, ◌+◌, ◌-◌, ◌≤◌, length, if◌then◌else◌, ◌==◌, Option, Some, None}
use Rattle.ground.specs.Plain.{◌<?◌, ◌≤?◌}
use Rattle.ground.specs.Types.{Bytes}
use Rattle.recording.specs.declared.record.Record.{Record}
use Rattle.recording.specs.declared.record.Record.TheVariants.{Frame, Malformed, Long, Unfinished, End}
use Rattle.recording.specs.declared.line.Found.{Found}
use Rattle.recording.specs.declared.line.Found.TheVariants.{Nothing, Open, TooLong, Ends}
use Rattle.recording.specs.Line.{MOST, first_line, found_of}
use Rattle.text.specs.Ascii.{ascii}
use Rattle.text.specs.Fields.{hex_of, is_hex, number_of, same_bytes}
use Rattle.text.specs.Text.{fields_of}

-- the flag is 0 or 1 and nothing else
unfoldable pub flag_in : Bytes → Option Bool
flag_in field = if same_bytes field (ascii "0") then Some false else if same_bytes field (ascii "1") then Some true else None

-- a port below the count, an H4 byte, a flag and the payload of P bytes
unfoldable pub frame_by : (ports : ℕ) (port h4 : Option ℕ) (flag : Option Bool) (payload : Bool) (place next : ℕ) → Record
frame_by ports (Some port) (Some h4) (Some flag) payload place next =
    if port <? ports && h4 <? 256 && payload then Frame port h4 flag place next else Malformed next
frame_by ports (Some port) (Some h4) None payload place next = Malformed next
frame_by ports (Some port) None flag payload place next = Malformed next
frame_by ports None h4 flag payload place next = Malformed next

-- four fields, the last of which ends at a place
abbrev pub record_by : (ports size end next : ℕ) (fields : List (List ℕ)) → Record
record_by ports size end next [] = Malformed next
record_by ports size end next (a ∷ []) = Malformed next
record_by ports size end next (a ∷ b ∷ []) = Malformed next
record_by ports size end next (a ∷ b ∷ c ∷ []) = Malformed next
record_by ports size end next (port ∷ h4 ∷ flag ∷ payload ∷ []) =
    frame_by ports (number_of 9 port) (hex_of 2 h4) (flag_in flag) (is_hex (size + size) payload) (end - length payload) next
record_by ports size end next (a ∷ b ∷ c ∷ d ∷ e ∷ rest) = Malformed next

-- a line that begins at a place, and the place of the next one
unfoldable pub line_record : (ports size at next : ℕ) (line : Bytes) → Record
line_record ports size at next line = if length line ≤? MOST then record_by ports size (at + length line) next (fields_of line) else Malformed next

-- what is left of a text from a place on, by its first line's end
abbrev pub record_found : (ports size at : ℕ) (rest : Bytes) (found : Found) → Record
record_found ports size at rest Nothing = End
record_found ports size at rest Open = Unfinished
record_found ports size at rest TooLong = Long
record_found ports size at rest (Ends end) = line_record ports size at (end + 1) (first_line rest)

unfoldable pub record_in : (ports size at : ℕ) (rest : Bytes) → Record
record_in ports size at rest = record_found ports size at rest (found_of at rest)

-- a last line that lacks its end
unfoldable pub last_record : (ports size at : ℕ) (rest : Bytes) → Record
last_record ports size at rest = if length rest == 0 then End else line_record ports size at (at + length rest) rest

-- a frame's line
abbrev pub is_frame : Record → Bool
is_frame (Frame port h4 flag place next) = true
is_frame (Malformed next) = false
is_frame Long = false
is_frame Unfinished = false
is_frame End = false

-- the payload of a frame lies in its line
pub record Lies (size end : ℕ) (r : Record) : Type 0 where
  pub within : (port h4 : ℕ) (flag : Bool) (place next : ℕ) → r ≡ Frame port h4 flag place next → place + size + size ≤ end
