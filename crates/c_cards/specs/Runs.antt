-- Runs for C: changes spoken with slots of a kind at once, and a whole board so.
use Rattle.std.specs.Prelude.{Bool, not, ◌&&◌, List, ℕ, length, if◌then◌else◌, ◌==◌}
use Rattle.ground.specs.Plain.{◌<?◌}
use Rattle.spoken.specs.Changes.{answer_number}
use Rattle.spoken.specs.Speaking.{SPEECH-ROOM}
use Rattle.spoken.specs.SpeakingRuns.{runs_speech_bytes, runs_speech_of, whole_speech_bytes, whole_speech_of}
use Rattle.c_cards.specs.Changes.{answer_by, board_from, bytes_by, is_board, written_by}

unfoldable pub runs_answer_c : (changes : List ℕ) (text : List ℕ) → ℕ
runs_answer_c changes text = answer_by runs_speech_of changes text

unfoldable pub runs_bytes_c : (changes : List ℕ) (text : List ℕ) → List ℕ
runs_bytes_c changes text = bytes_by runs_speech_bytes changes text

unfoldable pub runs_written_c : (changes : List ℕ) (text : List ℕ) (written : ℕ) → ℕ
runs_written_c changes text written = written_by runs_speech_of changes text written

-- A whole board: 9, and then the crate's own answer.
abbrev pub has_room : (board : List ℕ) (text : List ℕ) → Bool
has_room board text = is_board board && not (length text <? SPEECH-ROOM)

unfoldable pub whole_answer_c : (board : List ℕ) (text : List ℕ) → ℕ
whole_answer_c board text = if has_room board text then answer_number (whole_speech_of (board_from board) text).answer else 9

unfoldable pub whole_bytes_c : (board : List ℕ) (text : List ℕ) → List ℕ
whole_bytes_c board text = if has_room board text then whole_speech_bytes (board_from board) text else text

unfoldable pub whole_written_c : (board : List ℕ) (text : List ℕ) (written : ℕ) → ℕ
whole_written_c board text written = if whole_answer_c board text == 0 then (whole_speech_of (board_from board) text).written else written
