-- All that this crate and those below it define, opened under one name for examples that are computed. A new definition is named here, and nowhere else.
use Rattle.std.specs.Prelude.{ℕ}
use Rattle.recording.specs.Opened.{recording_open}
use Rattle.receiver.specs.Opened.{receiver_open}
use Rattle.mending.specs.Follow.{count_back, fed, finished, restored_back, restores_first, restores_last, restores_second, restores_third}
use Rattle.mending.specs.Following.{followed}
use Rattle.mending.specs.Lines.{capital, digit_place, judged, lines_with, record_of}
use Rattle.mending.specs.Mending.{fitting, mend_answer, mended_of, notes_of, read_answer}
use Rattle.mending.specs.Told.{lengths_of, mended_left, notes_left}
use Rattle.mending.specs.Undone.{note_of, told_again}

unfoldable pub mending_open : ℕ
unfolding recording_open receiver_open count_back fed finished restored_back restores_first restores_last restores_second restores_third followed capital
    digit_place judged lines_with record_of fitting mend_answer mended_of notes_of read_answer lengths_of mended_left notes_left note_of told_again
mending_open = 0
