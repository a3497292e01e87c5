-- What a line prints for a listener: nothing where it is done, and where it is refused which line it was, what it was and why, in words.
use Rattle.std.specs.Prelude.{Bool, [], ◌++◌, ℕ, if◌then◌else◌, ◌==◌}
use Rattle.ground.specs.Types.{Bytes}
use Rattle.session_lines.specs.declared.line.Line.{Line}
use Rattle.session_lines.specs.declared.line.Line.TheVariants.{Size, Add, Remove, Report, Lapse, Board, Malformed}
use Rattle.session_lines.specs.Output.{board_text}
use Rattle.session_lines.specs.Replies.{is_board, reply_of}
use Rattle.session_lines.specs.Told.{is_size}
use Rattle.sender.specs.declared.table.Table.{Table}
use Rattle.sender.specs.Board.{board_of}
use Rattle.spoken.specs.declared.lists.Changes.{Changes}
use Rattle.spoken.specs.Speaking.{can_speak, spoken_text}
use Rattle.spoken.specs.SpeakingRuns.{can_speak_whole, runs_text, whole_text}
use Rattle.text.specs.Ascii.{ascii}
use Rattle.text.specs.Output.{decimal_text, ended, number_text}
use Rattle.text.specs.Text.{LINE-END, TAB}

-- what a line was, in the words of the board; of one that is malformed nothing can be said
abbrev pub named_text : (line : Line) → Bytes
named_text (Size n) = ascii "size\t"
named_text (Add i) = ascii "add\tslot\t"
named_text (Remove i) = ascii "remove\tslot\t"
named_text (Report epoch mst ack) = ascii "report\t"
named_text Lapse = ascii "lapse\t"
named_text Board = ascii "board\t"
named_text Malformed = []

-- its count or slot, if it has one
abbrev pub numbered_text : (line : Line) → Bytes
numbered_text (Size n) = ended (number_text n) TAB
numbered_text (Add i) = ended (number_text i) TAB
numbered_text (Remove i) = ended (number_text i) TAB
numbered_text (Report epoch mst ack) = []
numbered_text Lapse = []
numbered_text Board = []
numbered_text Malformed = []

-- One number can have several causes: 2 is a slot's state, or that no wait is open. A report and a board are never refused.
abbrev pub cause_text : (line : Line) → Bytes
cause_text (Size n) = ascii "not 1 to 64\n"
cause_text (Add i) = ascii "in use already\n"
cause_text (Remove i) = ascii "not in use\n"
cause_text (Report epoch mst ack) = ascii "refused\n"
cause_text Lapse = ascii "no wait is open\n"
cause_text Board = ascii "refused\n"
cause_text Malformed = ascii "malformed\n"

abbrev pub why_text : (line : Line) (number : ℕ) → Bytes
why_text line number = if number == 1 then ascii "no such slot\n" else if number == 3 then ascii "a wait is open\n" else cause_text line

-- `answer 3 line 6 remove slot 0 a wait is open`, spaces standing for tabs
unfoldable pub refused_text : (line : Line) (number place : ℕ) → Bytes
refused_text line number place =
    ascii "answer\t" ++ ended (decimal_text number) TAB ++ ascii "line\t" ++ ended (number_text place) TAB ++ named_text line ++ numbered_text line ++ why_text line number

-- a line that is done says nothing by itself, but a new size, with which all begins anew: `size 4`
unfoldable pub done_text : (line : Line) (count : ℕ) → Bytes
done_text line count = if is_size line then ascii "size\t" ++ ended (decimal_text count) LINE-END else []

-- the table as it stands now, in runs or each slot by itself
unfoldable pub board_lines : (runs : Bool) (table : Table) → Bytes
board_lines runs table = if runs then (if can_speak_whole (board_of table) then whole_text (board_of table) else []) else board_text (board_of table)

-- what is told of changes that can be: in runs, or each by itself
abbrev pub lines_of : (runs : Bool) (changes : Changes) → Bytes
lines_of runs changes = if runs then runs_text changes else spoken_text changes

-- what has changed, in runs or each slot by itself
unfoldable pub change_lines : (runs : Bool) (changes : Changes) → Bytes
change_lines runs changes = if can_speak changes then (if runs then runs_text changes else spoken_text changes) else []

-- the output of a line of the session
unfoldable pub said_of : (runs : Bool) (table : Table) (line : Line) (place : ℕ) → Bytes
said_of runs table line place =
    if is_board line then board_lines runs table
    else if (reply_of table line).number == 0 then done_text line (reply_of table line).table.count
    else refused_text line (reply_of table line).number place
