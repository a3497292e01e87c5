-- One turn of a replay (2026-05): a line read, or a report fetched.
use Rattle.std.specs.Prelude.{ℕ, ◌+◌, ◌-◌, Bool, true, false, ◌&&◌, List, [], ◌∷◌, ◌++◌, length, take, drop, replicate, slice_index, slice_index_or, if◌then◌else◌}
use Rattle.std.proofs.Math.Seq.{slice}
use Rattle.ground.specs.Plain.{◌<?◌, ◌≤?◌}
use Rattle.ground.specs.Types.{Bytes, Rows}
use Rattle.ground.specs.Finding.{index_of}
use Rattle.phases.specs.Sizes.{start_sized}
use Rattle.receiver.specs.Cause.{cause_out}
use Rattle.receiver.specs.Fetch.{fetch_of}
use Rattle.receiver.specs.Frame.{frame_of}
use Rattle.receiver.specs.Starting.{start_as_rows, times_within}
use Rattle.recording.specs.declared.opening.Opening.{Opening}
use Rattle.recording.specs.declared.opening.Opening.TheVariants as O
use Rattle.recording.specs.declared.record.Record.{Record}
use Rattle.recording.specs.declared.record.Record.TheVariants.{Frame, Malformed, Long, Unfinished, End}
use Rattle.recording.specs.declared.pairs.Settings.{Settings as GroupSettings}
use Rattle.recording.specs.Opening.{opening_in}
use Rattle.recording.specs.Record.{last_record, record_in}
use Rattle.replay_lines.specs.declared.replay.Phase.{Phase}
use Rattle.replay_lines.specs.declared.replay.Phase.TheVariants.{Settings, Reading, Fetching, Skipping, Ended}
use Rattle.replay_lines.specs.declared.replay.Replay.{Replay}
use Rattle.replay_lines.specs.declared.turns.Replayed.{Replayed}
use Rattle.replay_lines.specs.Output.{ROOM, answer_text, report_text, states_in}
use Rattle.replay_lines.specs.Replay.{next_line, output_of, store_of}
use Rattle.rows.specs.Rows.{rows_for}
use Rattle.text.specs.Fields.{bytes_in}
use Rattle.text.specs.Text.{LINE-END}

-- a text at a buffer's front; the bytes behind it stay
abbrev pub over : Bytes → Bytes → Bytes
over text out = text ++ drop (length text) out

-- in another phase, with so many lines and fetches
abbrev pub in_phase : (r : Replay) (phase : Phase) (line left : ℕ) → Replay
in_phase r phase line left = record { phase = phase; line = line; left = left; kind = r.kind; ports = r.ports; size = r.size; window = r.window }

abbrev pub turned : (r : Replay) (used written : ℕ) (wants : Bool) → Replayed
turned r used written wants = record { replay = r; answer = 0; used = used; written = written; wants = wants }

-- 9: what is lent is too short, and nothing is done
abbrev pub refused_turn : Replay → Replayed
refused_turn r = record { replay = r; answer = 9; used = 0; written = 0; wants = true }

-- no line has ended
abbrev pub waiting_turn : Replay → Replayed
waiting_turn r = turned r 0 0 true

-- on a text from a place on: a turn on the rest alone, which has come so much further in the text
unfoldable pub placed : (at : ℕ) (t : Replayed) → Replayed
placed at t = record { replay = t.replay; answer = t.answer; used = at + t.used; written = t.written; wants = t.wants }

-- a line refused: it 'is printed with its line number'
unfoldable pub answered_turn : (r : Replay) (phase : Phase) (number used : ℕ) → Replayed
answered_turn r phase number used = turned (in_phase r phase (next_line r.line) 0) used (length (answer_text number (next_line r.line))) false

unfoldable pub answered_said : (r : Replay) (number : ℕ) (said : Bytes) → Bytes
answered_said r number said = over (answer_text number (next_line r.line)) said

-- What is lent holds zeros when a group starts: a replay does not go by what lay there before.

abbrev pub cleared_rows : Rows → Rows
cleared_rows rows = replicate (length rows) (replicate 16 0)

abbrev pub cleared_store : Bytes → Bytes
cleared_store store = replicate (length store) 0

-- the first line: 'a bad first line ends the run', and 'Settings out of range, or a store above' what is lent 'are 4 and end it'

-- the numbers of the group's ports
abbrev pub hold_offs : GroupSettings → List ℕ
hold_offs s = take s.ports s.hold_off

abbrev pub restores : GroupSettings → List ℕ
restores s = take s.ports s.restore

abbrev pub store_in : GroupSettings → ℕ
store_in s = store_of s.ports s.size s.window

abbrev pub is_sized : GroupSettings → Bool
is_sized s = start_sized s.kind s.ports s.size s.window

-- 'a count above 5,000 is number 4' (02, 2026-03)
unfoldable pub times_fit : GroupSettings → Bool
times_fit s = times_within (hold_offs s) && times_within (restores s)

unfoldable pub startable : GroupSettings → ℕ → Bool
startable s store = is_sized s && times_fit s && store_in s ≤? store

-- the group's own rows, as a receiver's start with these times leaves them
unfoldable pub started_rows : GroupSettings → Rows → Rows
started_rows s rows = start_as_rows s.kind s.ports s.size s.window (store_in s) (hold_offs s) (restores s) rows

abbrev pub started_turn : (r : Replay) (s : GroupSettings) (next : ℕ) → Replayed
started_turn r s next =
    turned (record { phase = Reading; line = next_line r.line; left = 0; kind = s.kind; ports = s.ports; size = s.size; window = s.window }) next 0 false

abbrev pub rows_started : GroupSettings → Rows → Rows
rows_started s rows = started_rows s (take (rows_for s.ports) (cleared_rows rows)) ++ drop (rows_for s.ports) (cleared_rows rows)

unfoldable pub open_with_turn : (r : Replay) (s : GroupSettings) (next store : ℕ) → Replayed
open_with_turn r s next store = if startable s store then started_turn r s next else answered_turn r Ended 4 0

unfoldable pub open_with_rows : (s : GroupSettings) (store : ℕ) (rows : Rows) → Rows
open_with_rows s store rows = if startable s store then rows_started s rows else rows

unfoldable pub open_with_said : (r : Replay) (s : GroupSettings) (store : ℕ) (said : Bytes) → Bytes
open_with_said r s store said = if startable s store then said else answered_said r 4 said

abbrev pub open_turn_by : (r : Replay) (store : ℕ) (opening : Opening) → Replayed
open_turn_by r store (O.Settings s next) = open_with_turn r s next store
open_turn_by r store O.Malformed = answered_turn r Ended 13 0
open_turn_by r store O.Unfinished = waiting_turn r
open_turn_by r store O.End = waiting_turn r

abbrev pub open_rows_by : (store : ℕ) (rows : Rows) (opening : Opening) → Rows
open_rows_by store rows (O.Settings s next) = open_with_rows s store rows
open_rows_by store rows O.Malformed = rows
open_rows_by store rows O.Unfinished = rows
open_rows_by store rows O.End = rows

abbrev pub open_said_by : (r : Replay) (store : ℕ) (said : Bytes) (opening : Opening) → Bytes
open_said_by r store said (O.Settings s next) = open_with_said r s store said
open_said_by r store said O.Malformed = answered_said r 13 said
open_said_by r store said O.Unfinished = said
open_said_by r store said O.End = said

-- rows are lent for 64 ports
abbrev pub open_lent : ℕ → ℕ → Bool
open_lent rows said = ROOM ≤? said && 321 ≤? rows

unfoldable pub open_turn : (r : Replay) (text : Bytes) (last : Bool) (rows store said : ℕ) → Replayed
open_turn r text last rows store said = if open_lent rows said then open_turn_by r store (opening_in 0 last text) else refused_turn r

unfoldable pub open_rows : (text : Bytes) (last : Bool) (rows : Rows) (store said : ℕ) → Rows
open_rows text last rows store said = if open_lent (length rows) said then open_rows_by store rows (opening_in 0 last text) else rows

unfoldable pub open_said : (r : Replay) (text : Bytes) (last : Bool) (rows store : ℕ) (said : Bytes) → Bytes
open_said r text last rows store said = if open_lent rows (length said) then open_said_by r store said (opening_in 0 last text) else said

-- lines are read next where a group has started
abbrev pub store_by : Phase → Bytes → Bytes
store_by Settings store = store
store_by Reading store = cleared_store store
store_by Fetching store = store
store_by Skipping store = store
store_by Ended store = store

-- a line

unfoldable pub is_lent : (r : Replay) (rows store out said : ℕ) → Bool
is_lent r rows store out said =
    ROOM ≤? said && r.ports ≤? 64 && r.size ≤? 2340 && rows_for r.ports ≤? rows && store_of r.ports r.size r.window ≤? store && output_of r.kind r.ports r.size ≤? out

abbrev pub is_open : Record → Bool
is_open (Frame port h4 flag place next) = false
is_open (Malformed next) = false
is_open Long = false
is_open Unfinished = true
is_open End = false

-- the record at the beginning of a text; the last line may lack its end
unfoldable pub record_now : (ports size : ℕ) (last : Bool) (text : Bytes) → Record
record_now ports size last text = if is_open (record_in ports size 0 text) && last then last_record ports size 0 text else record_in ports size 0 text

-- the payload's digits as bytes
unfoldable pub payload_at : (size place : ℕ) (text : Bytes) → Bytes
payload_at size place text = bytes_in (slice place (place + size + size) text) (replicate size 0)

-- the frame handed to the receiver, on the parts of rows and store that are its own
module _ (r : Replay) (port h4 : ℕ) (flag : Bool) (payload : List ℕ) (rows : List (List ℕ)) (store : List ℕ) where
  unfoldable pub framed_rows : List (List ℕ)
  framed_rows =
      (frame_of (take (rows_for r.ports) rows) port flag h4 payload (take (store_of r.ports r.size r.window) store)).rows ++ drop (rows_for r.ports) rows

  unfoldable pub framed_store : Bytes
  framed_store =
      (frame_of (take (rows_for r.ports) rows) port flag h4 payload (take (store_of r.ports r.size r.window) store)).store
      ++ drop (store_of r.ports r.size r.window) store

-- reports are fetched then, at most W of them
unfoldable pub framed_turn : Replay → ℕ → Replayed
framed_turn r next = turned (in_phase r Fetching (next_line r.line) r.window) next 0 false

module _ (r : Replay) (text : List ℕ) where
  -- 'a malformed line is 13, is printed with its line number, and changes nothing else'
  abbrev pub read_by : Record → Replayed
  read_by (Frame port h4 flag place next) = framed_turn r next
  read_by (Malformed next) = answered_turn r Reading 13 next
  read_by Long = answered_turn r Skipping 13 (length text)
  read_by Unfinished = waiting_turn r
  read_by End = waiting_turn r

  abbrev pub read_rows_by : (rows : Rows) (store : Bytes) (read : Record) → Rows
  read_rows_by rows store (Frame port h4 flag place next) = framed_rows r port h4 flag (payload_at r.size place text) rows store
  read_rows_by rows store (Malformed next) = rows
  read_rows_by rows store Long = rows
  read_rows_by rows store Unfinished = rows
  read_rows_by rows store End = rows

  abbrev pub read_store_by : (rows : Rows) (store : Bytes) (read : Record) → Bytes
  read_store_by rows store (Frame port h4 flag place next) = framed_store r port h4 flag (payload_at r.size place text) rows store
  read_store_by rows store (Malformed next) = store
  read_store_by rows store Long = store
  read_store_by rows store Unfinished = store
  read_store_by rows store End = store

  abbrev pub read_said_by : Bytes → Record → Bytes
  read_said_by said (Frame port h4 flag place next) = said
  read_said_by said (Malformed next) = answered_said r 13 said
  read_said_by said Long = answered_said r 13 said
  read_said_by said Unfinished = said
  read_said_by said End = said

abbrev pub now_in : (r : Replay) (text : Bytes) (last : Bool) → Record
now_in r text last = record_now r.ports r.size last text

unfoldable pub read_turn : (r : Replay) (text : Bytes) (last : Bool) (rows store out said : ℕ) → Replayed
read_turn r text last rows store out said = if is_lent r rows store out said then read_by r text (now_in r text last) else refused_turn r

unfoldable pub read_rows : (r : Replay) (text : Bytes) (last : Bool) (rows : Rows) (store : Bytes) (out said : ℕ) → Rows
read_rows r text last rows store out said = if is_lent r (length rows) (length store) out said then read_rows_by r text rows store (now_in r text last) else rows

unfoldable pub read_store :
    (r : Replay) (text : Bytes) (last : Bool) (rows : Rows) (store : Bytes) (out said : ℕ) → Bytes
read_store r text last rows store out said = if is_lent r (length rows) (length store) out said then read_store_by r text rows store (now_in r text last) else store

unfoldable pub read_said : (r : Replay) (text : Bytes) (last : Bool) (rows store out : ℕ) (said : Bytes) → Bytes
read_said r text last rows store out said = if is_lent r rows store out (length said) then read_said_by r text said (now_in r text last) else said

-- a report

unfoldable pub read_on_turn : Replay → Replayed
read_on_turn r = turned (in_phase r Reading r.line 0) 0 0 false

unfoldable pub reported_turn : Replay → ℕ → Replayed
reported_turn r written = turned (in_phase r Fetching r.line (r.left - 1)) 0 written false

-- the port to which the cause of the next report applies, as a receiver's rows say it before the fetch; 255: none
unfoldable pub blamed_in : (rows : Rows) → ℕ
blamed_in rows = slice_index (cause_out rows (0 ∷ 255 ∷ [])) 1

module _ (r : Replay) (rows : List (List ℕ)) (store out : List ℕ) where
  unfoldable pub fetch_record_by : List ℕ
  fetch_record_by = (fetch_of (take (rows_for r.ports) rows) (take (store_of r.ports r.size r.window) store) out (replicate 8 0)).report

  unfoldable pub fetch_rows_by : List (List ℕ)
  fetch_rows_by =
      (fetch_of (take (rows_for r.ports) rows) (take (store_of r.ports r.size r.window) store) out (replicate 8 0)).rows ++ drop (rows_for r.ports) rows

  unfoldable pub fetch_out_by : Bytes
  fetch_out_by = (fetch_of (take (rows_for r.ports) rows) (take (store_of r.ports r.size r.window) store) out (replicate 8 0)).out

  -- none is due where the mark is 0
  abbrev pub is_due : Bool
  is_due = 0 <? slice_index_or fetch_record_by 0 0

  unfoldable pub report_printed : List ℕ
  report_printed =
      report_text fetch_record_by (blamed_in (take (rows_for r.ports) rows)) r.line (states_in r.kind rows) (states_in r.kind fetch_rows_by) r.ports

  -- a fetch, and its report if it gave one
  unfoldable pub fetched_turn : Replayed
  fetched_turn = if is_due then reported_turn r (length report_printed) else read_on_turn r

  unfoldable pub fetched_said : Bytes → Bytes
  fetched_said said = if is_due then over report_printed said else said

  module _ (said : ℕ) where
    -- a fetch is made
    abbrev pub fetches : Bool
    fetches = is_lent r (length rows) (length store) (length out) said && 0 <? r.left

    unfoldable pub report_turn : Replayed
    report_turn =
        if is_lent r (length rows) (length store) (length out) said
        then (if 0 <? r.left then fetched_turn else read_on_turn r)
        else refused_turn r

    unfoldable pub report_rows : List (List ℕ)
    report_rows = if fetches then fetch_rows_by else rows

    unfoldable pub report_out : Bytes
    report_out = if fetches then fetch_out_by else out

  unfoldable pub report_said : Bytes → Bytes
  report_said said = if fetches (length said) then fetched_said said else said

-- the rest of a line that is too long

abbrev pub skipped_to : Bool → Phase
skipped_to last = if last then Reading else Skipping

unfoldable pub skip_turn : (r : Replay) (text : Bytes) (last : Bool) → Replayed
skip_turn r text last =
    if index_of LINE-END text <? length text then turned (in_phase r Reading r.line 0) (index_of LINE-END text + 1) 0 false
    else turned (in_phase r (skipped_to last) r.line 0) (length text) 0 true

-- nothing more is printed
abbrev pub ended_turn : Replay → ℕ → Replayed
ended_turn r text = turned r text 0 true

-- by the phase

abbrev pub turn_by :
    (phase : Phase) (r : Replay) (text : Bytes) (last : Bool) (rows : Rows) (store out : Bytes) (said : ℕ) → Replayed
turn_by Settings r text last rows store out said = open_turn r text last (length rows) (length store) said
turn_by Reading r text last rows store out said = read_turn r text last (length rows) (length store) (length out) said
turn_by Fetching r text last rows store out said = report_turn r rows store out said
turn_by Skipping r text last rows store out said = skip_turn r text last
turn_by Ended r text last rows store out said = ended_turn r (length text)

abbrev pub turn_rows_by :
    (phase : Phase) (r : Replay) (text : Bytes) (last : Bool) (rows : Rows) (store out : Bytes) (said : ℕ) → Rows
turn_rows_by Settings r text last rows store out said = open_rows text last rows (length store) said
turn_rows_by Reading r text last rows store out said = read_rows r text last rows store (length out) said
turn_rows_by Fetching r text last rows store out said = report_rows r rows store out said
turn_rows_by Skipping r text last rows store out said = rows
turn_rows_by Ended r text last rows store out said = rows

abbrev pub turn_store_by :
    (phase : Phase) (r : Replay) (text : Bytes) (last : Bool) (rows : Rows) (store out : Bytes) (said : ℕ) → Bytes
turn_store_by Settings r text last rows store out said = store_by (open_turn r text last (length rows) (length store) said).replay.phase store
turn_store_by Reading r text last rows store out said = read_store r text last rows store (length out) said
turn_store_by Fetching r text last rows store out said = store
turn_store_by Skipping r text last rows store out said = store
turn_store_by Ended r text last rows store out said = store

abbrev pub turn_out_by : (phase : Phase) (r : Replay) (rows : Rows) (store out : Bytes) (said : ℕ) → Bytes
turn_out_by Settings r rows store out said = out
turn_out_by Reading r rows store out said = out
turn_out_by Fetching r rows store out said = report_out r rows store out said
turn_out_by Skipping r rows store out said = out
turn_out_by Ended r rows store out said = out

abbrev pub turn_said_by :
    (phase : Phase) (r : Replay) (text : Bytes) (last : Bool) (rows : Rows) (store out said : Bytes) → Bytes
turn_said_by Settings r text last rows store out said = open_said r text last (length rows) (length store) said
turn_said_by Reading r text last rows store out said = read_said r text last (length rows) (length store) (length out) said
turn_said_by Fetching r text last rows store out said = report_said r rows store out said
turn_said_by Skipping r text last rows store out said = said
turn_said_by Ended r text last rows store out said = said

unfoldable pub turn_of :
    (r : Replay) (text : Bytes) (last : Bool) (rows : Rows) (store out : Bytes) (said : ℕ) → Replayed
turn_of r text last rows store out said = turn_by r.phase r text last rows store out said

unfoldable pub turn_rows : (r : Replay) (text : Bytes) (last : Bool) (rows : Rows) (store out : Bytes) (said : ℕ) → Rows
turn_rows r text last rows store out said = turn_rows_by r.phase r text last rows store out said

unfoldable pub turn_store :
    (r : Replay) (text : Bytes) (last : Bool) (rows : Rows) (store out : Bytes) (said : ℕ) → Bytes
turn_store r text last rows store out said = turn_store_by r.phase r text last rows store out said

unfoldable pub turn_out : (r : Replay) (rows : Rows) (store out : Bytes) (said : ℕ) → Bytes
turn_out r rows store out said = turn_out_by r.phase r rows store out said

unfoldable pub turn_said : (r : Replay) (text : Bytes) (last : Bool) (rows : Rows) (store out said : Bytes) → Bytes
turn_said r text last rows store out said = turn_said_by r.phase r text last rows store out said
