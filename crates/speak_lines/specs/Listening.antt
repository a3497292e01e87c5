-- A session told to a listener, fed in parts cut anywhere: the session's lines, and `epoch`, at which she is told what goes out now that did not before.
use Rattle.std.specs.Prelude.{Bool, [], ℕ, ◌+◌, length, Result, Ok, Err, if◌then◌else◌, ◌==◌}
use Rattle.ground.specs.Plain.{◌<?◌}
use Rattle.ground.specs.Types.{Bytes}
use Rattle.session_lines.specs.declared.console.Fed.{Fed}
use Rattle.session_lines.specs.declared.console.Refusal.{Refusal}
use Rattle.session_lines.specs.declared.console.Refusal.TheVariants.{Length}
use Rattle.session_lines.specs.declared.kept.Kept.{Kept}
use Rattle.session_lines.specs.Gathering.{gathered_of}
use Rattle.session_lines.specs.Kept.{line_in, nothing_kept}
use Rattle.session_lines.specs.Line.{line_of}
use Rattle.session_lines.specs.Replies.{reply_of}
use Rattle.session_lines.specs.Session.{over}
use Rattle.session_lines.specs.Told.{is_size}
use Rattle.sender.specs.declared.board.Board.{Board}
use Rattle.sender.specs.declared.table.Table.{Table}
use Rattle.sender.specs.Board.{board_of}
use Rattle.sender.specs.Commands.{start_of}
use Rattle.spoken.specs.Changes.{compared_of}
use Rattle.spoken.specs.Speaking.{SPEECH-ROOM}
use Rattle.text.specs.Ascii.{ascii}
use Rattle.text.specs.Fields.{same_bytes}
use Rattle.speak_lines.specs.declared.listening.Listener.{Listener}
use Rattle.speak_lines.specs.Lines.{change_lines, said_of}

-- Before any size the count is 0. `place` is the number of the line that is read next.
unfoldable pub beginning : (runs : Bool) → Listener
beginning runs = record { table = (start_of 0 0).table; heard = board_of (start_of 0 0).table; kept = nothing_kept; place = 1; runs = runs }

abbrev pub is_epoch : (line : Bytes) → Bool
is_epoch line = same_bytes line (ascii "epoch")

unfoldable pub table_after : (table : Table) (line : Bytes) → Table
table_after table line = if is_epoch line then table else (reply_of table (line_of line)).table

-- The board that she holds: that of the last `epoch`, which goes out from then on, or that of the start by a size that is accepted.
unfoldable pub heard_after : (table : Table) (heard : Board) (line : Bytes) → Board
heard_after table heard line =
    if is_epoch line then board_of table else if is_size (line_of line) then board_of (reply_of table (line_of line)).table else heard

-- what a line prints: at `epoch` what has changed from the board that she holds to the one that goes out now
unfoldable pub text_of : (listener : Listener) (line : Bytes) → Bytes
text_of l line =
    if is_epoch line then change_lines l.runs (compared_of l.heard (board_of l.table)).changes else said_of l.runs l.table (line_of line) l.place

-- lines are counted up to a number that no run uses up
unfoldable pub next_place : (place : ℕ) → ℕ
next_place place = if place <? 18446744073709551615 then place + 1 else place

unfoldable pub after_line : (listener : Listener) (line : Bytes) → Listener
after_line l line =
    record {
      table = table_after l.table line;
      heard = heard_after l.table l.heard line;
      kept = nothing_kept;
      place = next_place l.place;
      runs = l.runs;
    }

-- a listener as any console
abbrev pub kept_in : Listener → Kept
kept_in l = l.kept

abbrev pub with_kept : (listener : Listener) (kept : Kept) → Listener
with_kept l kept = record { table = l.table; heard = l.heard; kept = kept; place = l.place; runs = l.runs }

-- the line with what this part of the input has of it
abbrev pub line_with : (listener : Listener) (input : Bytes) → Kept
line_with l input = (gathered_of l.kept input).kept

abbrev pub ends_in : (listener : Listener) (input : Bytes) → Bool
ends_in l input = (gathered_of l.kept input).ended

unfoldable pub fed_listener : (listener : Listener) (input : Bytes) → Listener
fed_listener l input = if ends_in l input then after_line l (line_in (line_with l input)) else with_kept l (line_with l input)

unfoldable pub fed_text : (listener : Listener) (input : Bytes) → Bytes
fed_text l input = if ends_in l input then text_of l (line_in (line_with l input)) else []

-- What a part of the input has done. answer: 0, or 9 for an output buffer without room, and then nothing is used.
pub record Heard : Type 0 where
  pub listener : Listener
  pub answer : ℕ
  pub used : ℕ
  pub written : ℕ

-- as the code has it
abbrev pub told : Heard → Result (Fed Listener) Refusal
told h = if h.answer == 0 then Ok (record { console = h.listener; used = h.used; written = h.written }) else Err Length

-- 9: the buffer is too short, and nothing is used
abbrev pub refused : (listener : Listener) → Heard
refused l = record { listener = l; answer = 9; used = 0; written = 0 }

-- and back: of a refused call the caller knows all that there is
abbrev pub heard_back : (given : Listener) (told : Result (Fed Listener) Refusal) → Heard
heard_back given (Ok f) = record { listener = f.console; answer = 0; used = f.used; written = f.written }
heard_back given (Err refusal) = refused given

-- a part of the input up to its first line end
unfoldable pub feed_of : (listener : Listener) (input out : Bytes) → Heard
feed_of l input out =
    if length out <? SPEECH-ROOM then refused l
    else (record { listener = fed_listener l input; answer = 0; used = (gathered_of l.kept input).used; written = length (fed_text l input) })

unfoldable pub feed_bytes : (listener : Listener) (input out : Bytes) → Bytes
feed_bytes l input out = if length out <? SPEECH-ROOM then out else over (fed_text l input) out

-- the end of the input: the last line may lack its end
abbrev pub has_line : (listener : Listener) → Bool
has_line l = 0 <? l.kept.count

unfoldable pub last_listener : (listener : Listener) → Listener
last_listener l = if has_line l then after_line l (line_in l.kept) else l

unfoldable pub last_text : (listener : Listener) → Bytes
last_text l = if has_line l then text_of l (line_in l.kept) else []

unfoldable pub finish_of : (listener : Listener) (out : Bytes) → Heard
finish_of l out =
    if length out <? SPEECH-ROOM then refused l else (record { listener = last_listener l; answer = 0; used = 0; written = length (last_text l) })

unfoldable pub finish_bytes : (listener : Listener) (out : Bytes) → Bytes
finish_bytes l out = if length out <? SPEECH-ROOM then out else over (last_text l) out
