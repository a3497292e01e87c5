-- The spoken lines: one change a line, fields parted by tabs, the words first; then the wait. No line where nothing has changed.
use Rattle.std.specs.Prelude.{Bool, false, not, ◌&&◌, ◌||◌, List, [], ◌++◌, ℕ, zero, suc, drop, length, if◌then◌else◌, ◌==◌}
use Rattle.ground.specs.Plain.{◌<?◌, ◌≤?◌}
use Rattle.ground.specs.Types.{Bytes}
use Rattle.ground.specs.Counting.Words.{every}
use Rattle.packet.specs.declared.words.Word.{Word}
use Rattle.packet.specs.Words.{ADD, DNU, EOS, IDLE, NORM}
use Rattle.sender.specs.declared.board.Row.{Row}
use Rattle.text.specs.Ascii.{ascii}
use Rattle.text.specs.Output.{decimal_text, ended, word_text}
use Rattle.text.specs.Text.{LINE-END, TAB}
use Rattle.spoken.specs.Answers.{Answer}
use Rattle.spoken.specs.Answers.Answer.{Done, Unfit, Length}
use Rattle.spoken.specs.declared.lists.Change.{Change}
use Rattle.spoken.specs.declared.lists.Changes.{Changes}
use Rattle.spoken.specs.declared.lists.WaitChange.{WaitChange}
use Rattle.spoken.specs.declared.lists.WaitChange.TheVariants.{Same, Opened, Closed}
use Rattle.spoken.specs.Answers.{Speech}
use Rattle.spoken.specs.Applying.{change_in, rises_at}
use Rattle.spoken.specs.Changes.{same_row}

-- `slot 3`, with a tab behind it
unfoldable pub slot_text : ℕ → Bytes
slot_text slot = ended (ascii "slot") TAB ++ ended (decimal_text slot) TAB

-- `NORM 2`, with a mark behind it
unfoldable pub row_text : Row → ℕ → Bytes
row_text r mark = ended (word_text r.word) TAB ++ ended (decimal_text r.number) mark

unfoldable pub was_text : Row → Bytes
was_text r = ended (ascii "was") TAB ++ row_text r TAB

unfoldable pub now_text : Row → Bytes
now_text r = ended (ascii "now") TAB ++ row_text r LINE-END

-- `slot 3 was NORM 2 now EOS 2`, spaces standing for tabs
unfoldable pub change_text : Change → Bytes
change_text c = slot_text c.slot ++ was_text c.old ++ now_text c.new

-- the lines of the first n changes
abbrev pub change_lines : List Change → ℕ → List ℕ
change_lines list zero = []
change_lines list (suc n) = change_lines list n ++ change_text (change_in list n)

-- 'then the wait if it differs'
unfoldable pub wait_line : WaitChange → List ℕ
wait_line Same = []
wait_line Opened = ascii "wait\topen\n"
wait_line Closed = ascii "wait\tclosed\n"

unfoldable pub spoken_text : Changes → Bytes
spoken_text cs = change_lines cs.list cs.count ++ wait_line cs.wait

-- room for the lines of any changes: 64 of at most 34 bytes (`slot 63 was NORM 255 now NORM 254`) and `wait closed`
abbrev pub SPEECH-ROOM : ℕ
SPEECH-ROOM = 2188

-- a board shows no other words
abbrev pub is_shown : Word → Bool
is_shown w = w.0 == ADD || w.0 == NORM || w.0 == EOS || w.0 == DNU || w.0 == IDLE

-- Changes that fit some board and whose words can be said: nobody is to hear IDLE for a word that has no name.
abbrev pub speaks_by : Change → Bool → Bool
speaks_by c rises = c.slot <? 64 && rises && not (same_row c.old c.new) && is_shown c.old.word && is_shown c.new.word

unfoldable pub changes_speak : List Change → ℕ → Bool
changes_speak list n = every n (λ k. speaks_by (change_in list k) (rises_at list k))

unfoldable pub can_speak : Changes → Bool
can_speak cs = if cs.count ≤? 64 then changes_speak cs.list cs.count else false

-- 9, and then 2 for what cannot be said
abbrev pub spoken_answer : Bool → Bytes → Answer
spoken_answer can out = if length out <? SPEECH-ROOM then Length else if can then Done else Unfit

-- 9, 2
unfoldable pub speak_answer : Changes → Bytes → Answer
speak_answer cs out = if length out <? SPEECH-ROOM then Length else if can_speak cs then Done else Unfit

abbrev pub is_spoken : Changes → Bytes → Bool
is_spoken cs out = if length out <? SPEECH-ROOM then false else can_speak cs

unfoldable pub speech_of : Changes → Bytes → Speech
speech_of cs out = record { answer = speak_answer cs out; written = if is_spoken cs out then length (spoken_text cs) else 0 }

-- the lines at the front of the buffer; the rest stays
unfoldable pub speech_bytes : Changes → Bytes → Bytes
speech_bytes cs out = if is_spoken cs out then spoken_text cs ++ drop (length (spoken_text cs)) out else out
