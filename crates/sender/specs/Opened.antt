-- All that this crate and those below it define, opened under one name for examples that are computed. A new definition is named here, and nowhere else.
use Rattle.std.specs.Prelude.{ℕ}
use Rattle.packet.specs.Opened.{packet_open}
use Rattle.sender.specs.Board.{board_of, highest, no_row, row_of, rows_of}
use Rattle.sender.specs.Commands.{add_of, added_to, fallen, fallen_in, fresh_of, idle_slot, lapse_of, remove_of, removed_from, start_of}
use Rattle.sender.specs.Epochs.{begin_of, fresh_sender, packet_answer, packet_bytes, packet_fields, payload_answer, payload_bytes, ranks_of, start_epoch_of, started_epoch, started_sender}
use Rattle.sender.specs.Ranks.{carriers_in, rank_at, rank_of, ranks_in}
use Rattle.sender.specs.Reports.{acted_on, comes_before, mst_applied, number_after, number_applied, opens_wait, renumbered, report_of, slot_after, turn_of, waited}
use Rattle.sender.specs.Table.{holder_of, members_of, slot_count}

unfoldable pub sender_open : ℕ
unfolding packet_open board_of highest no_row row_of rows_of add_of added_to fallen fallen_in fresh_of idle_slot lapse_of remove_of removed_from start_of begin_of
    fresh_sender packet_answer packet_bytes packet_fields payload_answer payload_bytes ranks_of start_epoch_of started_epoch started_sender carriers_in rank_at
    rank_of ranks_in acted_on comes_before mst_applied number_after number_applied opens_wait renumbered report_of slot_after turn_of waited holder_of members_of
    slot_count
sender_open = 0
