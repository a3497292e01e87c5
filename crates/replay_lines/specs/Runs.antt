-- The whole output of a recording (2026-05), and a host's run over its parts.
use Rattle.std.specs.Prelude.{ℕ, zero, suc, Bool, List, [], ◌∷◌, ◌++◌, length, take, drop, if◌then◌else◌}
use Rattle.ground.specs.Types.{Bytes, Rows}
use Rattle.recording.specs.declared.opening.Opening.{Opening}
use Rattle.recording.specs.declared.opening.Opening.TheVariants as O
use Rattle.recording.specs.declared.record.Record.{Record}
use Rattle.recording.specs.declared.record.Record.TheVariants.{Frame, Malformed, Long, Unfinished, End}
use Rattle.recording.specs.Opening.{line_opening}
use Rattle.recording.specs.Record.{line_record}
use Rattle.replay_lines.specs.declared.replay.Phase.{Phase}
use Rattle.replay_lines.specs.declared.replay.Phase.TheVariants.{Settings, Reading, Fetching, Skipping, Ended}
use Rattle.replay_lines.specs.declared.replay.Replay.{Replay}
use Rattle.replay_lines.specs.declared.turns.Replayed.{Replayed}
use Rattle.replay_lines.specs.Output.{answer_text}
use Rattle.replay_lines.specs.Replay.{beginning, next_line}
use Rattle.replay_lines.specs.Turn.{fetch_rows_by, framed_rows, framed_store, is_due, open_with_rows, open_with_turn, payload_at, report_printed, startable, store_by, turn_of, turn_out, turn_rows, turn_said, turn_store, in_phase}
use Rattle.text.specs.Text.{lines_of}

-- what is carried from one line to the next
pub record Desk : Type 0 where
  pub replay : Replay
  pub rows : List (List ℕ)
  pub store : List ℕ

-- the output that a fetch writes into is lent; its length alone matters
module _ (out : List ℕ) where
  -- one fetch
  abbrev pub fetched : Desk → Desk
  fetched d = record { replay = d.replay; rows = fetch_rows_by d.replay d.rows d.store out; store = d.store }

  -- reports until none is due, at most so many
  abbrev pub reports : ℕ → Desk → List ℕ
  reports zero d = []
  reports (suc k) d = if is_due d.replay d.rows d.store out then report_printed d.replay d.rows d.store out ++ reports k (fetched d) else []

  abbrev pub reported : ℕ → Desk → Desk
  reported zero d = d
  reported (suc k) d = if is_due d.replay d.rows d.store out then reported k (fetched d) else fetched d

  -- in another phase
  abbrev pub standing : Desk → Phase → Desk
  standing d phase = record { replay = in_phase d.replay phase (next_line d.replay.line) 0; rows = d.rows; store = d.store }

  -- a refused line
  abbrev pub refusal : Desk → ℕ → List ℕ
  refusal d number = answer_text number (next_line d.replay.line)

  -- the first line
  abbrev pub opened_by : Desk → Opening → Desk
  opened_by d (O.Settings s next) =
      record {
        replay = (open_with_turn d.replay s next (length d.store)).replay;
        rows = open_with_rows s (length d.store) d.rows;
        store = store_by (open_with_turn d.replay s next (length d.store)).replay.phase d.store;
      }
  opened_by d O.Malformed = standing d Ended
  opened_by d O.Unfinished = d
  opened_by d O.End = d

  abbrev pub opening_text : Desk → Opening → Bytes
  opening_text d (O.Settings s next) = if startable s (length d.store) then [] else refusal d 4
  opening_text d O.Malformed = refusal d 13
  opening_text d O.Unfinished = []
  opening_text d O.End = []

  -- a frame handed to the receiver
  abbrev pub framed : (d : Desk) (line : Bytes) (port h4 : ℕ) (flag : Bool) (place : ℕ) → Desk
  framed d line port h4 flag place =
      record {
        replay = in_phase d.replay Reading (next_line d.replay.line) 0;
        rows = framed_rows d.replay port h4 flag (payload_at d.replay.size place line) d.rows d.store;
        store = framed_store d.replay port h4 flag (payload_at d.replay.size place line) d.rows d.store;
      }

  -- a line: its frame once, then reports until none is due
  abbrev pub read_by : (d : Desk) (line : Bytes) (read : Record) → Desk
  read_by d line (Frame port h4 flag place next) = reported d.replay.window (framed d line port h4 flag place)
  read_by d line (Malformed next) = standing d Reading
  read_by d line Long = standing d Reading
  read_by d line Unfinished = d
  read_by d line End = d

  abbrev pub read_text : (d : Desk) (line : Bytes) (read : Record) → Bytes
  read_text d line (Frame port h4 flag place next) = reports d.replay.window (framed d line port h4 flag place)
  read_text d line (Malformed next) = refusal d 13
  read_text d line Long = refusal d 13
  read_text d line Unfinished = []
  read_text d line End = []

  abbrev pub line_in : Desk → Bytes → Record
  line_in d line = line_record d.replay.ports d.replay.size 0 0 line

  -- by the phase; between two lines nothing is fetched or skipped
  abbrev pub desk_by : (phase : Phase) (d : Desk) (line : Bytes) → Desk
  desk_by Settings d line = opened_by d (line_opening 0 line)
  desk_by Reading d line = read_by d line (line_in d line)
  desk_by Fetching d line = d
  desk_by Skipping d line = d
  desk_by Ended d line = d

  abbrev pub text_by : (phase : Phase) (d : Desk) (line : Bytes) → Bytes
  text_by Settings d line = opening_text d (line_opening 0 line)
  text_by Reading d line = read_text d line (line_in d line)
  text_by Fetching d line = []
  text_by Skipping d line = []
  text_by Ended d line = []

  unfoldable pub desk_after : Desk → Bytes → Desk
  desk_after d line = desk_by d.replay.phase d line

  unfoldable pub said_to : Desk → Bytes → Bytes
  said_to d line = text_by d.replay.phase d line

  -- what is printed of lines, one behind the other, and what they leave
  abbrev pub output_from : Desk → List (List ℕ) → List ℕ
  output_from d [] = []
  output_from d (l ∷ ls) = said_to d l ++ output_from (desk_after d l) ls

  abbrev pub desk_through : Desk → List (List ℕ) → Desk
  desk_through d [] = d
  desk_through d (l ∷ ls) = desk_through (desk_after d l) ls

  -- 'in the order they arise': the whole output of a recording, over the rows and the store that are lent
  unfoldable pub whole_output : (rows : Rows) (store recording : Bytes) → Bytes
  whole_output rows store recording = output_from (record { replay = beginning; rows = rows; store = store }) (lines_of recording)

-- a host: the replay, what it lends to each call, the text that is not used yet and what it has written
pub record Host : Type 0 where
  pub replay : Replay
  pub rows : List (List ℕ)
  pub store : List ℕ
  pub out : List ℕ
  pub buffer : List ℕ
  pub text : List ℕ
  pub said : List ℕ

module _ (last : Bool) (h : Host) where
  abbrev pub answer : Replayed
  answer = turn_of h.replay h.text last h.rows h.store h.out (length h.buffer)

  abbrev pub buffer_after : List ℕ
  buffer_after = turn_said h.replay h.text last h.rows h.store h.out h.buffer

  -- one call: what it has written is written on, and what it has used is dropped
  unfoldable pub called : Host
  called =
      record {
        replay = answer.replay;
        rows = turn_rows h.replay h.text last h.rows h.store h.out (length h.buffer);
        store = turn_store h.replay h.text last h.rows h.store h.out (length h.buffer);
        out = turn_out h.replay h.rows h.store h.out (length h.buffer);
        buffer = buffer_after;
        text = drop answer.used h.text;
        said = h.said ++ take answer.written buffer_after;
      }

-- calls until one wants more text, at most n of them
unfoldable pub calls : (n : ℕ) (last : Bool) (h : Host) → Host
calls zero last h = h
calls (suc n) last h = if (answer last h).wants then called last h else calls n last (called last h)
