-- All that this crate and those below it define, opened under one name for examples that are computed. A new definition is named here, and nowhere else.
use Rattle.std.specs.Prelude.{ℕ}
use Rattle.text.specs.Opened.{text_open}
use Rattle.recording.specs.Line.{found_of}
use Rattle.recording.specs.Opening.{line_opening, opened, opening_in, settings_by}
use Rattle.recording.specs.Pairs.{field_in, kind_read, named, time_read}
use Rattle.recording.specs.Record.{flag_in, frame_by, last_record, line_record, record_in}

unfoldable pub recording_open : ℕ
unfolding text_open found_of line_opening opened opening_in settings_by field_in kind_read named time_read flag_in frame_by last_record line_record
    record_in
recording_open = 0
