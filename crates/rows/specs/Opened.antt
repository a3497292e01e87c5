-- All that this crate and those below it define, opened under one name for examples that are computed. A new definition is named here, and nowhere else.
use Rattle.std.specs.Prelude.{ℕ}
use Rattle.rows.specs.Group.{group_at, group_of, group_row, put_group}
use Rattle.rows.specs.Member.{member_at, member_of, member_row, put_member}
use Rattle.rows.specs.Packets.{entry_in, marks_at, packets_at, put_marks, put_packets, with_entry}
use Rattle.rows.specs.Port.{port_at}
use Rattle.rows.specs.Rows.{put_row, row_in}
use Rattle.rows.specs.Step.{put_step, step_at, step_of, step_row, with_next}

unfoldable pub rows_open : ℕ
unfolding group_at group_of group_row put_group member_at member_of member_row put_member entry_in marks_at packets_at put_marks put_packets with_entry port_at
    put_row row_in put_step step_at step_of step_row with_next
rows_open = 0
