-- All that this crate and those below it define, opened under one name for examples that are computed. A new definition is named here, and nowhere else.
use Rattle.std.specs.Prelude.{ℕ}
use Rattle.text.specs.Opened.{text_open}
use Rattle.sender.specs.Opened.{sender_open}
use Rattle.spoken.specs.Applying.{applied_of, changes_fit, fits, with_changes}
use Rattle.spoken.specs.Changes.{changes_in, changes_of, compared_of, list_of, no_changes}
use Rattle.spoken.specs.Speaking.{can_speak, change_text, changes_speak, now_text, row_text, slot_text, speak_answer, speech_bytes, speech_of, spoken_text, wait_line, was_text}
use Rattle.spoken.specs.Runs.{continues, spread_run}
use Rattle.spoken.specs.SpeakingRuns.{are_text, can_speak_whole, line_text, lines_in, many_shown, many_text, numbers_text, one_shown, rows_speak, rows_text, run_text, runs_speech_bytes, runs_speech_of, runs_text, shown_text, slots_text, standing, still_waits, were_text, whole_answer, whole_speech_bytes, whole_speech_of, whole_text}

unfoldable pub spoken_open : ℕ
unfolding text_open sender_open applied_of changes_fit fits with_changes changes_in changes_of compared_of list_of no_changes can_speak change_text changes_speak
    now_text row_text slot_text speak_answer speech_bytes speech_of spoken_text wait_line was_text spread_run continues numbers_text rows_text slots_text were_text
    are_text many_text run_text one_shown many_shown shown_text line_text lines_in runs_text runs_speech_of runs_speech_bytes standing still_waits
    whole_text rows_speak can_speak_whole whole_answer whole_speech_of whole_speech_bytes
spoken_open = 0
