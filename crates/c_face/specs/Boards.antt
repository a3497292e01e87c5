-- The board and the ranks for C, each from one table and whole. A state or a buffer of another length is refused with 9.
use Rattle.std.specs.Prelude.{Bool, ◌&&◌, List, [], ◌∷◌, ℕ, ◌-◌, get_or, length, if◌then◌else◌, ◌==◌}
use Rattle.ground.specs.Flags.{one_if}
use Rattle.ground.specs.Plain.{◌<?◌}
use Rattle.ground.specs.Table.{tabulate}
use Rattle.ground.specs.Types.{Bytes}
use Rattle.sender.specs.Board.{board_of}
use Rattle.sender.specs.declared.board.Board.{Board}
use Rattle.sender.specs.declared.ranks.Ranks.{Ranks}
use Rattle.sender.specs.Epochs.{ranks_of}
use Rattle.sender.specs.Table.{slot_count}
use Rattle.c_face.specs.Keeping.{rows_byte, sender_of}
use Rattle.c_face.specs.Senders.{is_state}

-- the count, at most 64, and the wait, then each slot's word and number
unfoldable pub board_byte : Board → ℕ → ℕ
board_byte b k = if k <? 2 then get_or (slot_count b.count ∷ one_if b.wait ∷ []) k 0 else rows_byte b.rows (k - 2)

abbrev pub board_bytes : ℕ
board_bytes = 130

unfoldable pub board_bytes_of : Board → List ℕ
board_bytes_of b = tabulate board_bytes (board_byte b)

-- the count, whether an epoch has started, its number and X, then each slot's rank
unfoldable pub rank_byte : Ranks → ℕ → ℕ
rank_byte r k = if k <? 4 then get_or (r.count ∷ one_if r.begun ∷ r.epoch ∷ r.x ∷ []) k 0 else get_or r.ranks (k - 4) 0

abbrev pub ranks_bytes : ℕ
ranks_bytes = 68

unfoldable pub ranks_bytes_of : Ranks → List ℕ
ranks_bytes_of r = tabulate ranks_bytes (rank_byte r)

abbrev pub both_sized : (n : ℕ) (state out : Bytes) → Bool
both_sized n state out = is_state state && length out == n

unfoldable pub shown_answer_c : (n : ℕ) (state out : Bytes) → ℕ
shown_answer_c n state out = if both_sized n state out then 0 else 9

-- under 9 the buffer stays
unfoldable pub shown_bytes : (n : ℕ) (state new out : Bytes) → Bytes
shown_bytes n state new out = if both_sized n state out then new else out

abbrev pub board_bytes_c : Bytes → Bytes → Bytes
board_bytes_c state out = shown_bytes board_bytes state (board_bytes_of (board_of (sender_of state).table)) out

abbrev pub outgoing_bytes_c : Bytes → Bytes → Bytes
outgoing_bytes_c state out = shown_bytes board_bytes state (board_bytes_of (sender_of state).outgoing) out

abbrev pub ranks_bytes_c : Bytes → Bytes → Bytes
ranks_bytes_c state out = shown_bytes ranks_bytes state (ranks_bytes_of (ranks_of (sender_of state))) out
