-- All that the crates define, opened under one name for examples that are computed. A new definition is named in its own crate's Opened, and nowhere else.
use Rattle.std.specs.Prelude.{ℕ}
use Rattle.c_cards.specs.Opened.{c_cards_open}
use Rattle.c_recordings.specs.Opened.{c_recordings_open}
use Rattle.link.specs.Opened.{link_open}
use Rattle.session_lines.specs.Opened.{console_open}

unfoldable pub all_open : ℕ
unfolding c_cards_open c_recordings_open link_open console_open
all_open = 0
