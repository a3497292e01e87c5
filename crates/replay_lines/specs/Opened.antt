-- All that this crate and those below it define, opened under one name for examples that are computed. A new definition is named here, and nowhere else.
use Rattle.std.specs.Prelude.{ℕ}
use Rattle.ground.specs.Finding.{index_after, index_of}
use Rattle.recording.specs.Opened.{recording_open}
use Rattle.receiver.specs.Opened.{receiver_open}
use Rattle.replay_lines.specs.Deeds.{wants_within}
use Rattle.replay_lines.specs.Output.{answer_text, blamed_text, cause_text, count_in, epoch_text, mark_text, place_text, port_text, report_text, state_at, state_line, state_text, states_in, why_text}
use Rattle.replay_lines.specs.Printing.{events_of}
use Rattle.replay_lines.specs.Runs.{called, calls, desk_after, said_to, whole_output}
use Rattle.replay_lines.specs.Turn.{answered_said, answered_turn, blamed_in, fetch_out_by, fetch_record_by, fetch_rows_by, fetched_said, fetched_turn, framed_rows, framed_store, framed_turn, is_lent, open_rows, open_said, open_turn, open_with_rows, open_with_said, open_with_turn, payload_at, placed, read_on_turn, read_rows, read_said, read_store, read_turn, record_now, report_printed, report_out, report_rows, report_said, report_turn, reported_turn, skip_turn, startable, started_rows, times_fit, turn_of, turn_out, turn_rows, turn_said, turn_store}
use Rattle.replay_lines.specs.Lengths.{in_range, lengths_in, lengths_of}

unfoldable pub replaying_open : ℕ
unfolding recording_open receiver_open index_after index_of wants_within answer_text blamed_text cause_text count_in epoch_text mark_text place_text port_text report_text state_at state_line
    state_text states_in why_text events_of called calls desk_after said_to whole_output answered_said answered_turn blamed_in fetch_out_by fetch_record_by fetch_rows_by fetched_said
    fetched_turn framed_rows framed_store framed_turn is_lent open_rows open_said open_turn open_with_rows open_with_said open_with_turn payload_at placed read_on_turn
    read_rows read_said read_store read_turn record_now report_printed report_out report_rows report_said report_turn reported_turn skip_turn startable started_rows
    times_fit turn_of turn_out turn_rows turn_said turn_store in_range lengths_in lengths_of
replaying_open = 0
