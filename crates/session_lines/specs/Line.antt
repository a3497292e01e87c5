-- What a line means (01, 'Session').
use Rattle.std.specs.Prelude.{◌&&◌, List, [], ◌∷◌, ℕ, length, if◌then◌else◌, Option, Some, None}
use Rattle.ground.specs.Plain.{◌<?◌, ◌≤?◌}
use Rattle.ground.specs.Types.{Bytes}
use Rattle.session_lines.specs.declared.line.Line.{Line}
use Rattle.session_lines.specs.declared.line.Line.TheVariants.{Size, Add, Remove, Report, Lapse, Board, Malformed}
use Rattle.text.specs.Ascii.{ascii}
use Rattle.text.specs.Fields.{same_bytes}
use Rattle.text.specs.Fields as F
use Rattle.text.specs.Text.{fields_of}

abbrev pub SIZE : List ℕ
SIZE = ascii "size"

abbrev pub ADD : List ℕ
ADD = ascii "add"

abbrev pub REMOVE : List ℕ
REMOVE = ascii "remove"

abbrev pub REPORT : List ℕ
REPORT = ascii "report"

abbrev pub LAPSE : List ℕ
LAPSE = ascii "lapse"

abbrev pub BOARD : List ℕ
BOARD = ascii "board"

-- 'Numbers have one to three decimal digits'
abbrev pub number_of : Bytes → Option ℕ
number_of field = F.number_of 3 field

-- 'two hex digits'
abbrev pub hex_of : Bytes → Option ℕ
hex_of field = F.hex_of 2 field

-- a line of one field
unfoldable pub word_line : List ℕ → Line
word_line word = if same_bytes word LAPSE then Lapse else if same_bytes word BOARD then Board else Malformed

-- a line of a word and a number
unfoldable pub number_line : List ℕ → Option ℕ → Line
number_line word (Some n) = if same_bytes word SIZE then Size n else if same_bytes word ADD then Add n else if same_bytes word REMOVE then Remove n else Malformed
number_line word None = Malformed

-- 'an epoch above 255 or an RS-Ack other than 0 or 1 is malformed'
unfoldable pub report_read : (epoch mst ack : Option ℕ) → Line
report_read (Some epoch) (Some mst) (Some ack) = if epoch <? 256 && mst <? 256 && ack <? 2 then Report epoch mst ack else Malformed
report_read (Some epoch) (Some mst) None = Malformed
report_read (Some epoch) None ack = Malformed
report_read None mst ack = Malformed

unfoldable pub report_line : (word : List ℕ) (epoch mst ack : Option ℕ) → Line
report_line word epoch mst ack = if same_bytes word REPORT then report_read epoch mst ack else Malformed

-- by the number of fields
abbrev pub meaning_of : List (List ℕ) → Line
meaning_of [] = Malformed
meaning_of (word ∷ []) = word_line word
meaning_of (word ∷ n ∷ []) = number_line word (number_of n)
meaning_of (word ∷ a ∷ b ∷ []) = Malformed
meaning_of (word ∷ epoch ∷ mst ∷ ack ∷ []) = report_line word (number_of epoch) (hex_of mst) (number_of ack)
meaning_of (word ∷ a ∷ b ∷ c ∷ d ∷ rest) = Malformed

-- 'Input lines are at most 80 bytes; a longer one is malformed.'
unfoldable pub line_of : Bytes → Line
line_of line = if length line ≤? 80 then meaning_of (fields_of line) else Malformed
