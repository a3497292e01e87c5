-- What is still to come of a host's output (2026-05): of the text that it has left, of more behind it, and of the lines of later parts.
use Rattle.std.specs.Prelude.{ℕ, ◌+◌, Bool, true, false, List, [], ◌++◌, drop}
use Rattle.ground.specs.Finding.{index_of}
use Rattle.ground.specs.Types.{Bytes}
use Rattle.replay_lines.specs.declared.replay.Phase.{Phase}
use Rattle.replay_lines.specs.declared.replay.Phase.TheVariants.{Settings, Reading, Fetching, Skipping, Ended}
use Rattle.replay_lines.specs.Runs.{Desk, Host, output_from, reported, reports}
use Rattle.replay_lines.specs.Turn.{in_phase}
use Rattle.text.specs.Text.{LINE-END, lines_of}

-- what is behind the first line of a text
abbrev pub behind_of : Bytes → Bytes
behind_of t = drop (index_of LINE-END t + 1) t

-- a host between two lines
abbrev pub between : Host → Desk
between h = record { replay = in_phase h.replay Reading h.replay.line 0; rows = h.rows; store = h.store }

abbrev pub desk_of : Host → Desk
desk_of h = record { replay = h.replay; rows = h.rows; store = h.store }

module _ (out : List ℕ) where
  -- what is still to come of a host that has this text left, and more behind it, and behind that the lines of later parts
  abbrev pub to_come_by : (phase : Phase) (h : Host) (more : Bytes) (later : List Bytes) → Bytes
  to_come_by Settings h more later = output_from out (desk_of h) (lines_of (h.text ++ more) ++ later)
  to_come_by Reading h more later = output_from out (desk_of h) (lines_of (h.text ++ more) ++ later)
  to_come_by Fetching h more later = reports out h.replay.left (between h) ++ output_from out (reported out h.replay.left (between h)) (lines_of (h.text ++ more) ++ later)
  to_come_by Skipping h more later = output_from out (between h) (lines_of (behind_of (h.text ++ more)) ++ later)
  to_come_by Ended h more later = []

  abbrev pub to_come : (h : Host) (more : Bytes) (later : List Bytes) → Bytes
  to_come h more later = to_come_by h.replay.phase h more later

-- no report may be due, and all text is used
abbrev pub is_done : Phase → Bool
is_done Settings = true
is_done Reading = true
is_done Fetching = false
is_done Skipping = true
is_done Ended = true
