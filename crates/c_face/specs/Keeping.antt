-- The sender's state as 397 bytes. Bytes 0 to 127 are the slots' states and numbers in turn, 128 to 255 the words and numbers now going out,
-- 256 to 383 those that rule, then the fields. Any bytes are a sender: what no call writes is read as said here.
use Rattle.std.specs.Prelude.{◌≡◌, List, [], ◌∷◌, ℕ, ◌+◌, ◌-◌, ◌*◌, ◌/◌, ◌%◌, get_or, length, if◌then◌else◌, ◌==◌}
use Rattle.ground.specs.Flags.{flag_of, one_if}
use Rattle.ground.specs.Plain.{◌<?◌}
use Rattle.ground.specs.Table.{tabulate}
use Rattle.ground.specs.Types.{Bytes}
use Rattle.sender.specs.Board.{word}
use Rattle.sender.specs.declared.board.Board.{Board}
use Rattle.sender.specs.declared.board.Row.{Row}
use Rattle.sender.specs.declared.epochs.Sender.{Sender}
use Rattle.sender.specs.declared.table.Slot.{Slot}
use Rattle.sender.specs.declared.table.State.{State}
use Rattle.sender.specs.declared.table.State.TheVariants.{Idle, Add, Active, Dnu}
use Rattle.sender.specs.declared.table.Table.{Table}
use Rattle.sender.specs.Ranks.{row_at}
use Rattle.sender.specs.Table.{slot_at}

-- how many bytes a state has
abbrev pub state_bytes : ℕ
state_bytes = 397

abbrev byte_in : Bytes → ℕ → ℕ
byte_in bytes k = get_or bytes k 0

-- a state byte other than 1, 2 and 3 counts as IDLE
abbrev pub state_of : ℕ → State
state_of code = if code == 1 then Add else if code == 2 then Active else if code == 3 then Dnu else Idle

abbrev pub code_of : State → ℕ
code_of Idle = 0
code_of Add = 1
code_of Active = 2
code_of Dnu = 3

-- Reading.

abbrev pub slot_in : Bytes → ℕ → Slot
slot_in bytes i = record { state = state_of (byte_in bytes (2 * i)); number = byte_in bytes (2 * i + 1) }

unfoldable pub slots_in : Bytes → List Slot
slots_in bytes = tabulate 64 (slot_in bytes)

abbrev pub row_in : (bytes : Bytes) (at i : ℕ) → Row
row_in bytes at i = record { word = word (byte_in bytes (at + 2 * i)); number = byte_in bytes (at + 2 * i + 1) }

unfoldable pub rows_in : Bytes → ℕ → List Row
rows_in bytes at = tabulate 64 (row_in bytes at)

abbrev pub table_in : Bytes → Table
table_in bytes =
    record { slots = slots_in bytes; count = byte_in bytes 384; wait = flag_of (byte_in bytes 385); remembered = byte_in bytes 386; kind = byte_in bytes 387 }

abbrev pub board_in : (bytes : Bytes) (at count wait : ℕ) → Board
board_in bytes at count wait = record { rows = rows_in bytes at; count = count; wait = flag_of wait }

unfoldable pub sender_of : Bytes → Sender
sender_of bytes =
    record {
      table = table_in bytes;
      outgoing = board_in bytes 128 (byte_in bytes 388) (byte_in bytes 389);
      ruling = board_in bytes 256 (byte_in bytes 390) (byte_in bytes 391);
      epoch = byte_in bytes 392;
      begun = flag_of (byte_in bytes 393);
      gid = byte_in bytes 394;
      mst = byte_in bytes 395;
      rs_ack = byte_in bytes 396;
    }

-- Writing.

abbrev pub slot_byte : Slot → ℕ → ℕ
slot_byte s side = if side == 0 then code_of s.state else s.number

abbrev pub slots_byte : List Slot → ℕ → ℕ
slots_byte slots k = slot_byte (slot_at slots (k / 2)) (k % 2)

abbrev pub row_byte : Row → ℕ → ℕ
row_byte r side = if side == 0 then r.word.0 else r.number

abbrev pub rows_byte : List Row → ℕ → ℕ
rows_byte rows k = row_byte (row_at rows (k / 2)) (k % 2)

abbrev pub field_bytes : Sender → Bytes
field_bytes s =
    s.table.count
    ∷ one_if s.table.wait
    ∷ s.table.remembered
    ∷ s.table.kind
    ∷ s.outgoing.count
    ∷ one_if s.outgoing.wait
    ∷ s.ruling.count
    ∷ one_if s.ruling.wait
    ∷ s.epoch
    ∷ one_if s.begun
    ∷ s.gid
    ∷ s.mst
    ∷ s.rs_ack
    ∷ []

unfoldable pub byte_at : Sender → ℕ → ℕ
byte_at s k =
    if k <? 128 then slots_byte s.table.slots k
    else if k <? 256 then rows_byte s.outgoing.rows (k - 128)
    else if k <? 384 then rows_byte s.ruling.rows (k - 256)
    else get_or (field_bytes s) (k - 384) 0

unfoldable pub bytes_of : Sender → Bytes
bytes_of s = tabulate state_bytes (byte_at s)

-- a sender whose table and boards have 64 rows each: every sender of the language's type
pub record Whole (s : Sender) : Type 0 where
  pub slots : length s.table.slots ≡ 64
  pub outgoing : length s.outgoing.rows ≡ 64
  pub ruling : length s.ruling.rows ≡ 64
