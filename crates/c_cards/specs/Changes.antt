-- The spoken board for C: boards compared, changes applied and spoken. A board is 130 bytes, as the sender's calls show it; changes are 322:
-- how many there are, the wait (0 same, 1 opened, 2 closed), then slot, old word, old number, new word, new number of each of 64.
use Rattle.std.specs.Prelude.{Bool, not, ◌&&◌, List, [], ◌∷◌, ℕ, ◌+◌, ◌-◌, ◌*◌, ◌/◌, ◌%◌, get_or, length, if◌then◌else◌, ◌==◌}
use Rattle.ground.specs.Plain.{◌<?◌}
use Rattle.ground.specs.Table.{tabulate}
use Rattle.ground.specs.Types.{Bytes}
use Rattle.sender.specs.Board.{word}
use Rattle.sender.specs.declared.board.Board.{Board}
use Rattle.sender.specs.declared.board.Row.{Row}
use Rattle.spoken.specs.Applying.{applied_of, change_in}
use Rattle.spoken.specs.Changes.{answer_number, compared_of}
use Rattle.spoken.specs.declared.lists.Change.{Change}
use Rattle.spoken.specs.declared.lists.Changes.{Changes}
use Rattle.spoken.specs.declared.lists.WaitChange.{WaitChange}
use Rattle.spoken.specs.declared.lists.WaitChange.TheVariants.{Same, Opened, Closed}
use Rattle.spoken.specs.Answers.{Speech}
use Rattle.spoken.specs.Shown.{wait_code}
use Rattle.spoken.specs.Speaking.{SPEECH-ROOM, speech_bytes, speech_of}
use Rattle.c_face.specs.Boards.{board_bytes, board_bytes_of}
use Rattle.c_face.specs.Keeping.{board_in}

abbrev pub is_board : Bytes → Bool
is_board bytes = length bytes == board_bytes

abbrev pub changes_bytes : ℕ
changes_bytes = 322

abbrev pub are_changes : Bytes → Bool
are_changes bytes = length bytes == changes_bytes

-- Reading. Any bytes are a board.

abbrev pub board_from : Bytes → Board
board_from bytes = board_in bytes 2 (get_or bytes 0 0) (get_or bytes 1 0)

abbrev row_from : Bytes → ℕ → Row
row_from bytes k = record { word = word (get_or bytes k 0); number = get_or bytes (k + 1) 0 }

abbrev pub change_from : Bytes → ℕ → Change
change_from bytes i = record { slot = get_or bytes (2 + 5 * i) 0; old = row_from bytes (2 + 5 * i + 1); new = row_from bytes (2 + 5 * i + 3) }

unfoldable pub list_from : Bytes → List Change
list_from bytes = tabulate 64 (change_from bytes)

abbrev pub wait_from : ℕ → WaitChange
wait_from byte = if byte == 1 then Opened else if byte == 2 then Closed else Same

-- a wait byte above 2 says nothing that a board could be told
abbrev pub is_wait : Bytes → Bool
is_wait bytes = get_or bytes 1 0 <? 3

unfoldable pub changes_from : Bytes → Changes
changes_from bytes = record { list = list_from bytes; count = get_or bytes 0 0; wait = wait_from (get_or bytes 1 0) }

-- Writing.

abbrev pub change_bytes : Change → Bytes
change_bytes c = c.slot ∷ c.old.word.0 ∷ c.old.number ∷ c.new.word.0 ∷ c.new.number ∷ []

abbrev pub list_byte : List Change → ℕ → ℕ
list_byte list k = get_or (change_bytes (change_in list (k / 5))) (k % 5) 0

unfoldable pub changes_byte : Changes → ℕ → ℕ
changes_byte cs k = if k <? 2 then get_or (cs.count ∷ wait_code cs.wait ∷ []) k 0 else list_byte cs.list (k - 2)

unfoldable pub changes_bytes_of : Changes → List ℕ
changes_bytes_of cs = tabulate changes_bytes (changes_byte cs)

-- The calls: 9 and then the crate's own answer; under a refusal every lent byte stays.

unfoldable pub compared_answer_c : (old new out : Bytes) → ℕ
compared_answer_c old new out =
    if is_board old && is_board new && are_changes out then answer_number (compared_of (board_from old) (board_from new)).answer else 9

unfoldable pub compared_bytes_c : (old new out : Bytes) → Bytes
compared_bytes_c old new out =
    if compared_answer_c old new out == 0 then changes_bytes_of (compared_of (board_from old) (board_from new)).changes else out

unfoldable pub applied_answer_c : Bytes → Bytes → ℕ
applied_answer_c board changes =
    if is_board board && are_changes changes then (if is_wait changes then answer_number (applied_of (board_from board) (changes_from changes)).answer else 2) else 9

unfoldable pub applied_bytes_c : Bytes → Bytes → Bytes
applied_bytes_c board changes =
    if applied_answer_c board changes == 0 then board_bytes_of (applied_of (board_from board) (changes_from changes)).board else board

abbrev pub roomy : Bytes → Bytes → Bool
roomy changes text = are_changes changes && not (length text <? SPEECH-ROOM)

-- what a call answers that speaks changes so, and what it leaves; how many bytes were written, which under a refusal stays as it was
abbrev pub answer_by : (speech : Changes → Bytes → Speech) (changes : Bytes) (text : Bytes) → ℕ
answer_by speech changes text =
    if roomy changes text then (if is_wait changes then answer_number (speech (changes_from changes) text).answer else 2) else 9

abbrev pub bytes_by : (said : Changes → Bytes → Bytes) (changes : Bytes) (text : Bytes) → Bytes
bytes_by said changes text = if roomy changes text && is_wait changes then said (changes_from changes) text else text

abbrev pub written_by : (speech : Changes → Bytes → Speech) (changes : Bytes) (text : Bytes) (written : ℕ) → ℕ
written_by speech changes text written = if answer_by speech changes text == 0 then (speech (changes_from changes) text).written else written

-- one line a slot
unfoldable pub spoken_answer_c : Bytes → Bytes → ℕ
spoken_answer_c changes text = answer_by speech_of changes text

unfoldable pub spoken_bytes_c : Bytes → Bytes → Bytes
spoken_bytes_c changes text = bytes_by speech_bytes changes text

unfoldable pub written_c : (changes text : Bytes) (written : ℕ) → ℕ
written_c changes text written = written_by speech_of changes text written
