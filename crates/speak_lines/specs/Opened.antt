-- All that this crate and those below it define, opened under one name for examples that are computed. A new definition is named here, and nowhere else.
use Rattle.std.specs.Prelude.{ℕ}
use Rattle.session_lines.specs.Opened.{console_open}
use Rattle.spoken.specs.Opened.{spoken_open}
use Rattle.speak_lines.specs.Lines.{board_lines, change_lines, done_text, refused_text, said_of}
use Rattle.speak_lines.specs.Listening.{after_line, beginning, fed_listener, fed_text, feed_bytes, feed_of, finish_bytes, finish_of, heard_after, last_listener, last_text, next_place, table_after, text_of}
use Rattle.speak_lines.specs.Runs.{ended_run, fed_once, host_output, left_of, whole_output}

unfoldable pub listener_open : ℕ
unfolding console_open spoken_open board_lines change_lines done_text refused_text said_of after_line beginning fed_listener fed_text feed_bytes feed_of finish_bytes
    finish_of heard_after last_listener last_text next_place table_after text_of ended_run fed_once host_output left_of whole_output
listener_open = 0
