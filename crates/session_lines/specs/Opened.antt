-- All that this crate and those below it define, opened under one name for examples that are computed. A new definition is named here, and nowhere else.
use Rattle.std.specs.Prelude.{ℕ}
use Rattle.text.specs.Opened.{text_open}
use Rattle.sender.specs.Opened.{sender_open}
use Rattle.session_lines.specs.Consoles.{fed_by, fed_bytes_by, finished_by, finished_bytes_by}
use Rattle.session_lines.specs.Gathering.{gathered_of}
use Rattle.session_lines.specs.Kept.{keep_of, line_in, nothing_kept}
use Rattle.session_lines.specs.Line.{line_of, number_line, report_line, report_read, word_line}
use Rattle.session_lines.specs.Output.{answer_text, board_text, slot_text, wait_text}
use Rattle.session_lines.specs.Replies.{output_of, reply_of, size_reply}
use Rattle.session_lines.specs.Running.{ended_by, left_by_whole}
use Rattle.session_lines.specs.Runs.{ended_run, fed_once, host_output, left_of, whole_output}
use Rattle.session_lines.specs.Session.{beginning, fed_session, fed_text, feed_bytes, feed_of, finish_bytes, finish_of, last_session, last_text, used_of}
use Rattle.session_lines.specs.Shown.{shown_bytes, shown_length}
use Rattle.session_lines.specs.Told.{told_table}

unfoldable pub console_open : ℕ
unfolding text_open sender_open keep_of line_in nothing_kept line_of number_line report_line report_read word_line answer_text board_text slot_text wait_text output_of
    reply_of size_reply ended_run fed_once host_output left_of whole_output beginning fed_session fed_text feed_bytes feed_of finish_bytes finish_of last_session
    last_text used_of gathered_of shown_bytes shown_length told_table fed_by fed_bytes_by finished_by finished_bytes_by left_by_whole ended_by
console_open = 0
