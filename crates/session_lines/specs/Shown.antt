-- The board of a table written out by itself, as the session's `board` does, for any who show one.
use Rattle.std.specs.Prelude.{ℕ, length, if◌then◌else◌}
use Rattle.ground.specs.Plain.{◌<?◌}
use Rattle.ground.specs.Types.{Bytes}
use Rattle.sender.specs.declared.table.Table.{Table}
use Rattle.sender.specs.Board.{board_of}
use Rattle.session_lines.specs.Output.{ROOM, board_text}
use Rattle.session_lines.specs.Session.{over}

-- how many bytes its lines take; none where the buffer has no room for every board
unfoldable pub shown_length : (table : Table) (out : Bytes) → ℕ
shown_length table out = if length out <? ROOM then 0 else length (board_text (board_of table))

unfoldable pub shown_bytes : (table : Table) (out : Bytes) → Bytes
shown_bytes table out = if length out <? ROOM then out else over (board_text (board_of table)) out
