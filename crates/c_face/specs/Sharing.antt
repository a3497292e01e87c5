-- What c_cards and c_recordings share with this crate, on bytes of any length. Bytes of another length count as zeros where they are read, and stay where they are to be written.
use Rattle.std.specs.Prelude.{Bool, ℕ, ◌+◌, get_or, length, replicate, if◌then◌else◌, ◌==◌}
use Rattle.ground.specs.Drawn.{fill_at}
use Rattle.ground.specs.Plain.{◌≤?◌}
use Rattle.ground.specs.Types.{Bytes}
use Rattle.sender.specs.declared.board.Board.{Board}
use Rattle.c_face.specs.Keeping.{board_in}

abbrev pub or_zeros : (n : ℕ) (bytes : Bytes) → Bytes
or_zeros n bytes = if length bytes == n then bytes else replicate n 0

abbrev pub if_sized : (n : ℕ) (new out : Bytes) → Bytes
if_sized n new out = if length out == n then new else out

abbrev pub has_room : (at n : ℕ) (bytes : Bytes) → Bool
has_room at n bytes = at + n ≤? length bytes

abbrev pub board_at : (bytes : Bytes) (at count wait : ℕ) → Board
board_at bytes at count wait = if has_room at 128 bytes then board_in bytes at count wait else board_in (replicate 128 0) 0 count wait

abbrev pub bytes_put : (from : Bytes) (at : ℕ) (out : Bytes) → Bytes
bytes_put from at out = if has_room at (length from) out then fill_at at (length from) (λ k. get_or from k 0) out else out
