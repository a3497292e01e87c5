-- The lines of the output: 'spaces standing for tabs, no header' (01, 'Session').
use Rattle.std.specs.Prelude.{Bool, List, [], ◌++◌, ℕ, zero, suc, get_or, if◌then◌else◌}
use Rattle.ground.specs.Types.{Bytes}
use Rattle.packet.specs.declared.words.Word.{Word}
use Rattle.sender.specs.declared.board.Board.{Board}
use Rattle.sender.specs.declared.board.Row.{Row}
use Rattle.text.specs.Ascii.{ascii}
use Rattle.text.specs.Output.{decimal_text, ended, word_text}
use Rattle.text.specs.Text.{LINE-END, TAB}

abbrev pub ANSWER : List ℕ
ANSWER = ascii "answer"

abbrev pub SLOT : List ℕ
SLOT = ascii "slot"

abbrev pub WAIT : List ℕ
WAIT = ascii "wait"

unfoldable pub answer_text : ℕ → Bytes
answer_text n = ended ANSWER TAB ++ ended (decimal_text n) LINE-END

abbrev pub row_at : List Row → ℕ → Row
row_at rows i = get_or rows i (record { word = record { 0 = 0 }; number = 0 })

unfoldable pub slot_text : (slot : ℕ) (w : Word) (number : ℕ) → Bytes
slot_text i w n = ended SLOT TAB ++ ended (decimal_text i) TAB ++ ended (word_text w) TAB ++ ended (decimal_text n) LINE-END

-- 1 if a wait is open
unfoldable pub wait_text : Bool → Bytes
wait_text b = ended WAIT TAB ++ ended (decimal_text (if b then 1 else 0)) LINE-END

-- the lines of the first n slots, in order
abbrev pub slots_text : List Row → ℕ → Bytes
slots_text rows zero = []
slots_text rows (suc n) = slots_text rows n ++ slot_text n (row_at rows n).word (row_at rows n).number

-- a board: each slot, then the wait
unfoldable pub board_text : Board → Bytes
board_text b = slots_text b.rows b.count ++ wait_text b.wait

-- room for what any line is answered: 64 slots of at most 17 bytes (`slot 63 NORM 255`) and the wait
abbrev pub ROOM : ℕ
ROOM = 1095
