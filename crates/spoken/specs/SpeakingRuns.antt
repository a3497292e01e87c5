-- The lines of runs: `slots 1 to 62 was NORM 1 to 62 now NORM 0 to 61`. A run of one is told as its change is.
use Rattle.std.specs.Prelude.{Bool, true, false, ◌&&◌, List, [], ◌∷◌, ◌++◌, ℕ, drop, length, take, if◌then◌else◌, ◌==◌}
use Rattle.ground.specs.Flags.{one_if}
use Rattle.ground.specs.Plain.{◌<?◌, ◌≤?◌}
use Rattle.ground.specs.Table.{tabulate}
use Rattle.ground.specs.Counting.Words.{every}
use Rattle.packet.specs.Words.{IDLE}
use Rattle.sender.specs.declared.board.Board.{Board}
use Rattle.sender.specs.declared.board.Row.{Row}
use Rattle.sender.specs.Ranks.{row_at}
use Rattle.text.specs.Ascii.{ascii}
use Rattle.text.specs.Output.{decimal_text, ended, word_text}
use Rattle.text.specs.Text.{LINE-END, TAB}
use Rattle.spoken.specs.Answers.{Answer}
use Rattle.spoken.specs.Answers.Answer.{Done, Unfit, Length}
use Rattle.spoken.specs.declared.lists.Change.{Change}
use Rattle.spoken.specs.declared.lists.Changes.{Changes}
use Rattle.spoken.specs.declared.runs.Run.{Run}
use Rattle.spoken.specs.Answers.{Speech}
use Rattle.spoken.specs.Runs.{runs_of}
use Rattle.spoken.specs.Speaking.{SPEECH-ROOM, change_text, is_shown, is_spoken, row_text, slot_text, speak_answer, wait_line}

-- `1 to 62`, or `255` where they are alike, with a mark behind it
unfoldable pub numbers_text : (first : ℕ) (last : ℕ) (mark : ℕ) → List ℕ
numbers_text first last mark =
    if first == last then ended (decimal_text first) mark else ended (decimal_text first) TAB ++ (ended (ascii "to") TAB ++ ended (decimal_text last) mark)

-- IDLE has no number: the 255 that stands for it is not told of many slots
abbrev pub is_unnumbered : (first : Row) (last : Row) → Bool
is_unnumbered first last = first.word.0 == IDLE && first.number == 255 && last.number == 255

-- `NORM 1 to 62`, or `IDLE`
unfoldable pub rows_text : (first : Row) (last : Row) (mark : ℕ) → List ℕ
rows_text first last mark =
    if is_unnumbered first last then ended (ascii "IDLE") mark else ended (word_text first.word) TAB ++ numbers_text first.number last.number mark

-- `slots 1 to 62`
unfoldable pub slots_text : (from : ℕ) (to : ℕ) → List ℕ
slots_text from to = ended (ascii "slots") TAB ++ numbers_text from to TAB

unfoldable pub were_text : (first : Row) (last : Row) → List ℕ
were_text first last = ended (ascii "was") TAB ++ rows_text first last TAB

unfoldable pub are_text : (first : Row) (last : Row) → List ℕ
are_text first last = ended (ascii "now") TAB ++ rows_text first last LINE-END

unfoldable pub many_text : (run : Run) → List ℕ
many_text run =
    slots_text run.first.slot run.last.slot ++ were_text run.first.old run.last.old ++ are_text run.first.new run.last.new

unfoldable pub run_text : (run : Run) → List ℕ
run_text run = if run.first.slot == run.last.slot then change_text run.first else many_text run

-- Of a board as it stands a slot's row is old and new: `slot 3 NORM 2`, `slots 4 to 63 IDLE`.
unfoldable pub one_shown : (change : Change) → List ℕ
one_shown change = slot_text change.slot ++ row_text change.new LINE-END

unfoldable pub many_shown : (run : Run) → List ℕ
many_shown run = slots_text run.first.slot run.last.slot ++ rows_text run.first.new run.last.new LINE-END

unfoldable pub shown_text : (run : Run) → List ℕ
shown_text run = if run.first.slot == run.last.slot then one_shown run.first else many_shown run

-- of a board as it stands, or of changes
unfoldable pub line_text : (shown : Bool) (run : Run) → List ℕ
line_text shown run = if shown then shown_text run else run_text run

abbrev pub run_lines : (shown : Bool) (runs : List Run) → List ℕ
run_lines shown [] = []
run_lines shown (run ∷ runs) = line_text shown run ++ run_lines shown runs

unfoldable pub lines_in : (shown : Bool) (list : List Change) (n : ℕ) → List ℕ
lines_in shown list n = run_lines shown (runs_of (take n list))

unfoldable pub runs_text : (changes : Changes) → List ℕ
runs_text changes = lines_in false changes.list changes.count ++ wait_line changes.wait

-- refused as one line a slot is
unfoldable pub runs_speech_of : (changes : Changes) (out : List ℕ) → Speech
runs_speech_of changes out = record { answer = speak_answer changes out; written = if is_spoken changes out then length (runs_text changes) else 0 }

-- the lines at the front of the buffer; the rest stays
unfoldable pub runs_speech_bytes : (changes : Changes) (out : List ℕ) → List ℕ
runs_speech_bytes changes out = if is_spoken changes out then runs_text changes ++ drop (length (runs_text changes)) out else out

-- the rows of a board, each as it was
abbrev pub standing_at : (rows : List Row) (slot : ℕ) → Change
standing_at rows slot = record { slot = slot; old = row_at rows slot; new = row_at rows slot }

unfoldable pub standing : (rows : List Row) → List Change
standing rows = tabulate 64 (standing_at rows)

-- `wait 1`
unfoldable pub still_waits : (wait : Bool) → List ℕ
still_waits wait = ended (ascii "wait") TAB ++ ended (decimal_text (one_if wait)) LINE-END

unfoldable pub whole_text : (board : Board) → List ℕ
whole_text board = lines_in true (standing board.rows) board.count ++ still_waits board.wait

-- at most 64 slots, whose words can be told
unfoldable pub rows_speak : (rows : List Row) (n : ℕ) → Bool
rows_speak rows n = every n (λ i. is_shown (row_at rows i).word)

abbrev pub slots_speak : (rows : List Row) (count : ℕ) → Bool
slots_speak rows count = if count ≤? 64 then rows_speak rows count else false

unfoldable pub can_speak_whole : (board : Board) → Bool
can_speak_whole board = slots_speak board.rows board.count

-- 9, 2
unfoldable pub whole_answer : (board : Board) (out : List ℕ) → Answer
whole_answer board out = if length out <? SPEECH-ROOM then Length else if can_speak_whole board then Done else Unfit

abbrev pub is_spoken_whole : (board : Board) (out : List ℕ) → Bool
is_spoken_whole board out = if length out <? SPEECH-ROOM then false else can_speak_whole board

unfoldable pub whole_speech_of : (board : Board) (out : List ℕ) → Speech
whole_speech_of board out = record { answer = whole_answer board out; written = if is_spoken_whole board out then length (whole_text board) else 0 }

unfoldable pub whole_speech_bytes : (board : Board) (out : List ℕ) → List ℕ
whole_speech_bytes board out = if is_spoken_whole board out then whole_text board ++ drop (length (whole_text board)) out else out
