-- All that this crate and those below it define, opened under one name for examples that are computed. A new definition is named here, and nowhere else.
use Rattle.std.specs.Prelude.{ℕ}
use Rattle.mending.specs.Opened.{mending_open}
use Rattle.replay_lines.specs.Opened.{replaying_open}
use Rattle.c_recordings.specs.Mends.{mended_length_c, notes_length_c}
use Rattle.c_recordings.specs.Replays.{begin_answer_c, begin_state_c, bytes_of as bytesOf-Replays, line_in, out_length_c, replay_of, store_length_c, turn_answer_c, turn_at_c, turn_out_c, turn_rows_c, turn_said_c, turn_state_c, turn_store_c, turn_wants_c, turn_written_c}

unfoldable pub c_recordings_open : ℕ
unfolding mending_open replaying_open mended_length_c notes_length_c begin_answer_c begin_state_c bytesOf-Replays line_in out_length_c replay_of store_length_c
    turn_answer_c turn_at_c turn_out_c turn_rows_c turn_said_c turn_state_c turn_store_c turn_wants_c turn_written_c
c_recordings_open = 0
