-- The board: what the table sends, read whole (01, 'The sender's table').
use Rattle.std.specs.Prelude.{Bool, not, ◌&&◌, List, ℕ, replicate, if◌then◌else◌}
use Rattle.ground.specs.Plain.{◌<?◌}
use Rattle.ground.specs.Counting.Each.{each}
use Rattle.ground.specs.Counting.Words.{some}
use Rattle.packet.specs.declared.words.Word.{Word}
use Rattle.packet.specs.Kinds.{idle_number}
use Rattle.packet.specs.Words.{ADD, DNU, EOS, IDLE, NORM}
use Rattle.sender.specs.declared.board.Board.{Board}
use Rattle.sender.specs.declared.board.Row.{Row}
use Rattle.sender.specs.declared.table.Slot.{Slot}
use Rattle.sender.specs.declared.table.State.{State}
use Rattle.sender.specs.declared.table.State.TheVariants.{Idle, Add, Active, Dnu}
use Rattle.sender.specs.declared.table.Table.{Table}
use Rattle.sender.specs.Table.{is_active, slot_count, slot_at}

-- no active slot has a number above q
unfoldable pub highest : (slots : List Slot) (count number : ℕ) → Bool
highest slots n q = not (some n (λ j. is_active (slot_at slots j).state && q <? (slot_at slots j).number))

abbrev pub word : ℕ → Word
word w = record { 0 = w }

-- 'The highest-numbered active member sends EOS, the other active ones NORM.'
abbrev pub word_of : State → Bool → Word
word_of Idle last = word IDLE
word_of Add last = word ADD
word_of Active last = if last then word EOS else word NORM
word_of Dnu last = word DNU

unfoldable pub row_of : (slots : List Slot) (count slot : ℕ) → Row
row_of slots n i = record { word = word_of (slot_at slots i).state (highest slots n (slot_at slots i).number); number = (slot_at slots i).number }

-- what stands past the last slot
unfoldable pub no_row : ℕ → Row
no_row kind = record { word = word IDLE; number = idle_number kind }

unfoldable pub rows_of : (slots : List Slot) (count kind : ℕ) → List Row
rows_of slots n kind = each n (λ i. row_of slots n i) (replicate 64 (no_row kind))

unfoldable pub board_of : Table → Board
board_of t = record { rows = rows_of t.slots (slot_count t.count) t.kind; count = slot_count t.count; wait = t.wait }
