-- All that this crate and those below it define, opened under one name for examples that are computed. A new definition is named here, and nowhere else.
use Rattle.std.specs.Prelude.{ℕ}
use Rattle.rows.specs.Opened.{rows_open}
use Rattle.packet.specs.Opened.{packet_open}
use Rattle.store.specs.Frames.{byte_at, h4_at, packet_in, place_in, ring_of, stored_at}
use Rattle.store.specs.Marks.{cut_byte, cut_from, first_mark, mark_in, marked_at, marked_byte, passed_byte, passed_marks}

unfoldable pub store_open : ℕ
unfolding rows_open packet_open byte_at h4_at packet_in place_in ring_of stored_at cut_byte cut_from first_mark mark_in marked_at marked_byte passed_byte passed_marks
store_open = 0
