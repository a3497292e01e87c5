-- A session (01, 'Session'), fed in parts cut anywhere.
use Rattle.std.specs.Prelude.{Bool, [], ◌++◌, ℕ, ◌+◌, drop, length, take, Result, Ok, Err, if◌then◌else◌, ◌==◌}
use Rattle.ground.specs.Plain.{◌<?◌}
use Rattle.ground.specs.Types.{Bytes}
use Rattle.ground.specs.Finding.{index_of}
use Rattle.sender.specs.declared.table.Table.{Table}
use Rattle.sender.specs.Commands.{start_of}
use Rattle.session_lines.specs.declared.console.Fed.{Fed as Told}
use Rattle.session_lines.specs.declared.console.Refusal.{Refusal}
use Rattle.session_lines.specs.declared.console.Refusal.TheVariants.{Length}
use Rattle.session_lines.specs.declared.kept.Kept.{Kept}
use Rattle.session_lines.specs.declared.session.Session.{Session}
use Rattle.session_lines.specs.Kept.{keep_all, line_in, nothing_kept}
use Rattle.session_lines.specs.Line.{line_of}
use Rattle.session_lines.specs.Output.{ROOM}
use Rattle.session_lines.specs.Replies.{output_of, reply_of}
use Rattle.text.specs.Text.{LINE-END}

-- 'Before any size, the count is 0.'
unfoldable pub beginning : Session
beginning = record { table = (start_of 0 0).table; kept = nothing_kept }

-- a text at a buffer's front; the bytes behind it stay
abbrev pub over : Bytes → Bytes → Bytes
over text out = text ++ drop (length text) out

-- a line's bytes answered: the table afterwards, and the output
abbrev pub table_after : Table → Bytes → Table
table_after t line = (reply_of t (line_of line)).table

abbrev pub said_to : Table → Bytes → Bytes
said_to t line = output_of t (line_of line)

-- a part of the input up to its first line end, kept behind what is kept already
abbrev pub kept_with : Session → Bytes → Kept
kept_with s input = keep_all s.kept (take (index_of LINE-END input) input)

abbrev pub has_end : Bytes → Bool
has_end input = index_of LINE-END input <? length input

-- used is the line and its end, or all
unfoldable pub used_of : Bytes → ℕ
used_of input = if has_end input then index_of LINE-END input + 1 else index_of LINE-END input

-- a session as any console: what it keeps, and what a line leaves and is answered
abbrev pub kept_in : Session → Kept
kept_in s = s.kept

abbrev pub kept_by : Session → Kept → Session
kept_by s kept = record { table = s.table; kept = kept }

abbrev pub answered_by : Session → Bytes → Session
answered_by s line = record { table = table_after s.table line; kept = nothing_kept }

abbrev pub said_by : Session → Bytes → Bytes
said_by s line = said_to s.table line

unfoldable pub fed_session : Session → Bytes → Session
fed_session s input =
    if has_end input then (record { table = table_after s.table (line_in (kept_with s input)); kept = nothing_kept }) else (record { table = s.table; kept = kept_with s input })

unfoldable pub fed_text : Session → Bytes → Bytes
fed_text s input = if has_end input then said_to s.table (line_in (kept_with s input)) else []

-- What a part of the input has done. answer: 0, or 9 for an output buffer without room, and then nothing is used.
pub record Fed : Type 0 where
  pub session : Session
  pub answer : ℕ
  pub used : ℕ
  pub written : ℕ

-- as the code has it
abbrev pub told : Fed → Result (Told Session) Refusal
told f = if f.answer == 0 then Ok (record { console = f.session; used = f.used; written = f.written }) else Err Length

-- 9: 'output .. length wrong', 'state as given'
abbrev pub refused : Session → Fed
refused s = record { session = s; answer = 9; used = 0; written = 0 }

-- and back: of a refused call the caller knows all that there is
abbrev pub fed_back : (given : Session) (told : Result (Told Session) Refusal) → Fed
fed_back given (Ok f) = record { session = f.console; answer = 0; used = f.used; written = f.written }
fed_back given (Err refusal) = refused given

unfoldable pub feed_of : (s : Session) (input out : Bytes) → Fed
feed_of s input out =
    if length out <? ROOM then refused s
    else (record { session = fed_session s input; answer = 0; used = used_of input; written = length (fed_text s input) })

unfoldable pub feed_bytes : (s : Session) (input out : Bytes) → Bytes
feed_bytes s input out = if length out <? ROOM then out else over (fed_text s input) out

-- the end of the input: the last line may lack its end
abbrev pub has_line : Session → Bool
has_line s = 0 <? s.kept.count

unfoldable pub last_session : Session → Session
last_session s = if has_line s then (record { table = table_after s.table (line_in s.kept); kept = nothing_kept }) else s

unfoldable pub last_text : Session → Bytes
last_text s = if has_line s then said_to s.table (line_in s.kept) else []

unfoldable pub finish_of : Session → Bytes → Fed
finish_of s out =
    if length out <? ROOM then refused s else (record { session = last_session s; answer = 0; used = 0; written = length (last_text s) })

unfoldable pub finish_bytes : Session → Bytes → Bytes
finish_bytes s out = if length out <? ROOM then out else over (last_text s) out
