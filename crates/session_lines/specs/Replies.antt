-- What a line is answered (01, 'Session').
use Rattle.std.specs.Prelude.{Bool, true, false, ℕ, if◌then◌else◌, ◌==◌}
use Rattle.ground.specs.Types.{Bytes}
use Rattle.sender.specs.Answers.{Outcome}
use Rattle.sender.specs.declared.table.Table.{Table}
use Rattle.sender.specs.Board.{board_of}
use Rattle.sender.specs.Calls as S
use Rattle.sender.specs.Commands.{start_of}
use Rattle.sender.specs.Table.{answer_number}
use Rattle.session_lines.specs.declared.line.Line.{Line}
use Rattle.session_lines.specs.declared.line.Line.TheVariants.{Size, Add, Remove, Report, Lapse, Board, Malformed}
use Rattle.session_lines.specs.declared.replies.Reply.{Reply}
use Rattle.session_lines.specs.Output.{answer_text, board_text}

abbrev pub replied : Table → ℕ → Reply
replied t n = record { table = t; number = n }

abbrev pub replied_of : Outcome → Reply
replied_of s = replied s.table (answer_number s.answer)

-- 'A second size starts afresh; a refused one leaves the board as it stood.'
unfoldable pub size_reply : Table → ℕ → Reply
size_reply t n = if answer_number (start_of t.kind n).answer == 0 then replied_of (start_of t.kind n) else replied t (answer_number (start_of t.kind n).answer)

-- 13: 'malformed line', 'state as given'
unfoldable pub reply_of : Table → Line → Reply
reply_of t (Size n) = size_reply t n
reply_of t (Add i) = replied_of (S.outcome_of t (S.AddSlot i))
reply_of t (Remove i) = replied_of (S.outcome_of t (S.RemoveSlot i))
reply_of t (Report epoch mst ack) = replied_of (S.outcome_of t (S.Report epoch mst ack))
reply_of t Lapse = replied_of (S.outcome_of t S.Lapse)
reply_of t Board = replied t 0
reply_of t Malformed = replied t 13

abbrev pub is_board : Line → Bool
is_board (Size n) = false
is_board (Add i) = false
is_board (Remove i) = false
is_board (Report epoch mst ack) = false
is_board Lapse = false
is_board Board = true
is_board Malformed = false

-- the output of a line: the board with no answer line, or the answer
unfoldable pub output_of : Table → Line → Bytes
output_of t l = if is_board l then board_text (board_of t) else answer_text (reply_of t l).number
