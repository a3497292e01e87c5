-- Wrong readings of 01, each as a definition with a run on which it breaks what 01 says.
use Rattle.std.specs.Prelude.{◌≡◌, refl, List, ℕ, if◌then◌else◌, Option, Some, None}
use Rattle.ground.specs.Plain.{◌<?◌}
use Rattle.sender.specs.declared.table.Table.{Table}
use Rattle.sender.specs.Commands.{fresh_of, start_of}
use Rattle.session_lines.specs.declared.replies.Reply.{Reply}
use Rattle.session_lines.specs.Line.{number_of}
use Rattle.session_lines.specs.Replies.{replied_of, size_reply}
use Rattle.text.specs.Ascii.{ascii}
use Rattle.session_lines.specs.Opened.{console_open}

-- A number that does not fit a byte as malformed. 'Numbers have one to three decimal digits': `size 256` is refused by its range, with 4.
wrong_byte : Option ℕ → Option ℕ
wrong_byte (Some n) = if n <? 256 then Some n else None
wrong_byte None = None

wrong_number : List ℕ → Option ℕ
wrong_number field = wrong_byte (number_of field)

number_breaks : (wrong_number (ascii "256") ≡ None) × (number_of (ascii "256") ≡ Some 256)
unfolding console_open wrong_number wrong_byte
number_breaks = (refl, refl)

-- A refused size that hands on the empty group of the library's start, where 'a refused one leaves the board as it stood'.
wrong_size : Table → ℕ → Reply
wrong_size t n = replied_of (start_of t.kind n)

size_breaks : ((wrong_size (fresh_of 0 2) 65).table.count ≡ 0) × ((size_reply (fresh_of 0 2) 65).table.count ≡ 2)
unfolding console_open wrong_size
size_breaks = (refl, refl)
