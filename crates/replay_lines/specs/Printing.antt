-- What arises in a run over a recording (2026-05), and the lines that are printed of it: 'each epoch's report with mark and byte count, and each change of port state, in the order they arise'.
-- Behind mark and byte count a held or doubtful report names why, and the port.
use Rattle.std.specs.Prelude.{ℕ, zero, suc, ◌+◌, ◌/◌, ◌%◌, ◌||◌, List, [], ◌∷◌, ◌++◌, length, take, slice_index, slice_index_or, if◌then◌else◌, ◌==◌}
use Rattle.ground.specs.Types.{Bytes, Rows}
use Rattle.recording.specs.declared.opening.Opening.{Opening}
use Rattle.recording.specs.declared.opening.Opening.TheVariants as O
use Rattle.recording.specs.declared.record.Record.{Record}
use Rattle.recording.specs.declared.record.Record.TheVariants.{Frame, Malformed, Long, Unfinished, End}
use Rattle.recording.specs.Opening.{line_opening}
use Rattle.replay_lines.specs.declared.replay.Phase.{Phase}
use Rattle.replay_lines.specs.declared.replay.Phase.TheVariants.{Settings, Reading, Fetching, Skipping, Ended}
use Rattle.replay_lines.specs.Output.{cause_text, count_in, mark_text, state_text, states_in}
use Rattle.replay_lines.specs.Replay.{beginning, next_line}
use Rattle.replay_lines.specs.Runs.{Desk, desk_after, fetched, framed, line_in}
use Rattle.replay_lines.specs.Turn.{blamed_in, fetch_record_by, fetch_rows_by, is_due, startable}
use Rattle.rows.specs.Rows.{rows_for}
use Rattle.text.specs.Ascii.{ascii}
use Rattle.text.specs.Output.{decimal_text, ended, number_text}
use Rattle.text.specs.Text.{TAB, lines_of}

-- What arises in a run: a line refused, or a report that a fetch gave, with the port to which its cause applies, the line behind which it came, the ports, and their states before the fetch
-- and after it.
pub data Event : Type 0 where
  Refused : ℕ → ℕ → Event
  Reported : List ℕ → ℕ → ℕ → ℕ → List ℕ → List ℕ → Event

module _ (out : List ℕ) where
  abbrev pub given : Desk → Event
  given d =
      Reported (fetch_record_by d.replay d.rows d.store out) (blamed_in (take (rows_for d.replay.ports) d.rows)) d.replay.line d.replay.ports (states_in d.replay.kind d.rows) (states_in d.replay.kind (fetch_rows_by d.replay d.rows d.store out))

  -- every fetch behind a frame, until one gives none
  abbrev pub fetches : ℕ → Desk → List Event
  fetches zero d = []
  fetches (suc k) d = if is_due d.replay d.rows d.store out then given d ∷ fetches k (fetched out d) else []

  abbrev pub refusal_of : (d : Desk) (number : ℕ) → List Event
  refusal_of d number = Refused number (next_line d.replay.line) ∷ []

  abbrev pub opening_events : Desk → Opening → List Event
  opening_events d (O.Settings s next) = if startable s (length d.store) then [] else refusal_of d 4
  opening_events d O.Malformed = refusal_of d 13
  opening_events d O.Unfinished = []
  opening_events d O.End = []

  abbrev pub read_events : (d : Desk) (line : Bytes) (read : Record) → List Event
  read_events d line (Frame port h4 flag place next) = fetches d.replay.window (framed out d line port h4 flag place)
  read_events d line (Malformed next) = refusal_of d 13
  read_events d line Long = refusal_of d 13
  read_events d line Unfinished = []
  read_events d line End = []

  abbrev pub events_by : (phase : Phase) (d : Desk) (line : Bytes) → List Event
  events_by Settings d line = opening_events d (line_opening 0 line)
  events_by Reading d line = read_events d line (line_in out d line)
  events_by Fetching d line = []
  events_by Skipping d line = []
  events_by Ended d line = []

  abbrev pub events_from : Desk → List (List ℕ) → List Event
  events_from d [] = []
  events_from d (l ∷ ls) = events_by d.replay.phase d l ++ events_from (desk_after out d l) ls

  unfoldable pub events_of : (rows : Rows) (store recording : Bytes) → List Event
  events_of rows store recording = events_from (record { replay = beginning; rows = rows; store = store }) (lines_of recording)

-- the lines of an event, without their ends

abbrev pub answer_line : (number line : ℕ) → Bytes
answer_line number line = ended (ascii "answer") TAB ++ ended (decimal_text number) TAB ++ ended (ascii "line") TAB ++ number_text line

-- why, and the port where it is one port's

abbrev pub blamed_line : ℕ → Bytes
blamed_line port = if port == 255 then [] else ascii "\tport\t" ++ decimal_text port

abbrev pub why_line : (cause port : ℕ) → Bytes
why_line cause port = ended (ascii "cause") TAB ++ cause_text cause ++ blamed_line port

abbrev pub place_line : (mark line cause port : ℕ) → Bytes
place_line mark line cause port = if mark == 1 || mark == 2 then ended (number_text line) TAB ++ why_line cause port else number_text line

abbrev pub epoch_line : (rec : List ℕ) (blamed line : ℕ) → Bytes
epoch_line rec blamed line =
    ended (ascii "epoch") TAB ++ ended (decimal_text (slice_index rec 1)) TAB ++ ended (mark_text (slice_index rec 0)) TAB ++ ended (ascii "bytes") TAB ++ ended (number_text (count_in rec)) TAB ++ ended (ascii "line") TAB ++ place_line (slice_index rec 0) line (slice_index rec 3) blamed

abbrev pub port_line : (port state : ℕ) → Bytes
port_line port state = ended (ascii "port") TAB ++ ended (decimal_text port) TAB ++ ended (state_text (state / 256)) TAB ++ decimal_text (state % 256)

-- the ports below n whose state is another, in order
abbrev pub changed : (before after : List ℕ) (n : ℕ) → List ℕ
changed before after zero = []
changed before after (suc n) = changed before after n ++ (if slice_index_or before n 0 == slice_index after n then [] else n ∷ [])

abbrev pub port_lines : (after ports : List ℕ) → List Bytes
port_lines after [] = []
port_lines after (i ∷ ports) = port_line i (slice_index after i) ∷ port_lines after ports

abbrev pub lines_in : Event → List Bytes
lines_in (Refused number line) = answer_line number line ∷ []
lines_in (Reported rec blamed line ports before after) = epoch_line rec blamed line ∷ port_lines after (changed before after ports)

abbrev pub all_lines : List Event → List Bytes
all_lines [] = []
all_lines (e ∷ es) = lines_in e ++ all_lines es

-- by their first letter

abbrev pub only : (letter : ℕ) (lines : List Bytes) → List Bytes
only letter [] = []
only letter (l ∷ ls) = if slice_index_or l 0 0 == letter then l ∷ only letter ls else only letter ls

-- what the fetches gave
abbrev pub report_lines : List Event → List Bytes
report_lines [] = []
report_lines (Refused number line ∷ es) = report_lines es
report_lines (Reported rec blamed line ports before after ∷ es) = epoch_line rec blamed line ∷ report_lines es

abbrev pub change_lines : List Event → List Bytes
change_lines [] = []
change_lines (Refused number line ∷ es) = change_lines es
change_lines (Reported rec blamed line ports before after ∷ es) = port_lines after (changed before after ports) ++ change_lines es

-- how often a port is among them

abbrev pub times : (port : ℕ) (ports : List ℕ) → ℕ
times i [] = 0
times i (j ∷ l) = (if j == i then 1 else 0) + times i l
