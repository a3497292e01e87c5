-- All that these rows compute with, opened under one name. A new definition is named in its own crate's Opened, and nowhere else.
use Rattle.std.specs.Prelude.{ℕ}
use Rattle.c_cards.specs.Opened.{c_cards_open}
use Rattle.c_recordings.specs.Opened.{c_recordings_open}
use Rattle.session_lines.specs.Opened.{console_open}

unfoldable pub all_open : ℕ
unfolding c_cards_open c_recordings_open console_open
all_open = 0
