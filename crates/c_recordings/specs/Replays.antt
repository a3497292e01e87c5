-- A recording run again, for C: the turns are the crate's own, on a replay that is kept in lent bytes.
use Rattle.std.specs.Prelude.{◌≡◌, Bool, not, ◌&&◌, List, [], ◌∷◌, ◌++◌, ℕ, ◌+◌, ◌*◌, ◌/◌, ◌%◌, drop, get_or, length, take, if◌then◌else◌, ◌==◌}
use Rattle.ground.specs.Flags.{one_if}
use Rattle.ground.specs.Plain.{◌≤?◌}
use Rattle.replay_lines.specs.declared.replay.Phase.{Phase}
use Rattle.replay_lines.specs.declared.replay.Phase.TheVariants.{Settings, Reading, Fetching, Skipping, Ended}
use Rattle.replay_lines.specs.declared.replay.Replay.{Replay}
use Rattle.replay_lines.specs.declared.turns.Replayed.{Replayed}
use Rattle.replay_lines.specs.Lengths.{lengths_of}
use Rattle.replay_lines.specs.Replay.{beginning}
use Rattle.replay_lines.specs.Runs.{Host, answer, called}
use Rattle.replay_lines.specs.Turn.{turn_of, turn_out, turn_rows, turn_said, turn_store}

-- The state of a replay is 17 bytes: the phase, the number of lines read in eight bytes, how many fetches may follow in two, the group's kind and ports, P and W in two each; the highest byte
-- first. Any bytes are a replay: a phase byte other than 1 to 4 counts as 0.

abbrev pub replay_bytes : ℕ
replay_bytes = 17

abbrev pub is_replay : List ℕ → Bool
is_replay state = length state == replay_bytes

abbrev pub phase_of : ℕ → Phase
phase_of code = if code == 1 then Reading else if code == 2 then Fetching else if code == 3 then Skipping else if code == 4 then Ended else Settings

abbrev pub phase_code : Phase → ℕ
phase_code Settings = 0
phase_code Reading = 1
phase_code Fetching = 2
phase_code Skipping = 3
phase_code Ended = 4

abbrev pub two_of : (high low : ℕ) → ℕ
two_of high low = high * 256 + low

abbrev pub four_of : (a b c d : ℕ) → ℕ
four_of a b c d = a * 16777216 + b * 65536 + c * 256 + d

abbrev byte_in : List ℕ → ℕ → ℕ
byte_in state k = get_or state k 0

unfoldable pub line_in : List ℕ → ℕ
line_in state =
    four_of (byte_in state 1) (byte_in state 2) (byte_in state 3) (byte_in state 4) * 4294967296 + four_of (byte_in state 5) (byte_in state 6) (byte_in state 7) (byte_in state 8)

unfoldable pub replay_of : List ℕ → Replay
replay_of state =
    record {
      phase = phase_of (byte_in state 0);
      line = line_in state;
      left = two_of (byte_in state 9) (byte_in state 10);
      kind = byte_in state 11;
      ports = byte_in state 12;
      size = two_of (byte_in state 13) (byte_in state 14);
      window = two_of (byte_in state 15) (byte_in state 16);
    }

unfoldable pub bytes_of : Replay → List ℕ
bytes_of r =
    phase_code r.phase
    ∷ (r.line / 72057594037927936)
    ∷ (r.line / 281474976710656 % 256)
    ∷ (r.line / 1099511627776 % 256)
    ∷ (r.line / 4294967296 % 256)
    ∷ (r.line / 16777216 % 256)
    ∷ (r.line / 65536 % 256)
    ∷ (r.line / 256 % 256)
    ∷ (r.line % 256)
    ∷ (r.left / 256)
    ∷ (r.left % 256)
    ∷ r.kind
    ∷ r.ports
    ∷ (r.size / 256)
    ∷ (r.size % 256)
    ∷ (r.window / 256)
    ∷ (r.window % 256)
    ∷ []

-- What a first line asks to be lent. The lengths that are told are numbers of the caller's, and stay under a refusal.

abbrev pub lengths_answer_c : List ℕ → ℕ
lengths_answer_c recording = (lengths_of recording).answer

unfoldable pub store_length_c : (recording : List ℕ) (given : ℕ) → ℕ
store_length_c recording given = if lengths_answer_c recording == 0 then (lengths_of recording).store else given

unfoldable pub out_length_c : (recording : List ℕ) (given : ℕ) → ℕ
out_length_c recording given = if lengths_answer_c recording == 0 then (lengths_of recording).out else given

-- Beginning.

unfoldable pub begin_answer_c : List ℕ → ℕ
begin_answer_c state = if is_replay state then 0 else 9

unfoldable pub begin_state_c : List ℕ → List ℕ
begin_state_c state = if is_replay state then bytes_of beginning else state

-- One turn on a text from a place on. 9 for a state of another length and for a place behind the text's end, then the turn's own. A refusal writes nothing.

abbrev pub last_c : ℕ → Bool
last_c last = not (last == 0)

module _ (state text : List ℕ) (at last : ℕ) (rows : List (List ℕ)) (store out : List ℕ) where
  abbrev pub takes : Bool
  takes = is_replay state && at ≤? length text

  module _ (said : ℕ) where
    abbrev pub turn_c : Replayed
    turn_c = turn_of (replay_of state) (drop at text) (last_c last) rows store out said

    unfoldable pub turn_answer_c : ℕ
    turn_answer_c = if takes then turn_c.answer else 9

    unfoldable pub turn_state_c : List ℕ
    turn_state_c = if turn_answer_c == 0 then bytes_of turn_c.replay else state

    -- 'knows how far it has come'
    unfoldable pub turn_at_c : ℕ
    turn_at_c = if turn_answer_c == 0 then at + turn_c.used else at

    unfoldable pub turn_rows_c : List (List ℕ)
    turn_rows_c = if takes then turn_rows (replay_of state) (drop at text) (last_c last) rows store out said else rows

    unfoldable pub turn_store_c : List ℕ
    turn_store_c = if takes then turn_store (replay_of state) (drop at text) (last_c last) rows store out said else store

    unfoldable pub turn_out_c : List ℕ
    turn_out_c = if takes then turn_out (replay_of state) rows store out said else out

    unfoldable pub turn_written_c : ℕ → ℕ
    turn_written_c given = if turn_answer_c == 0 then turn_c.written else given

    unfoldable pub turn_wants_c : ℕ → ℕ
    turn_wants_c given = if turn_answer_c == 0 then one_if turn_c.wants else given

  unfoldable pub turn_said_c : List ℕ → List ℕ
  turn_said_c said = if takes then turn_said (replay_of state) (drop at text) (last_c last) rows store out said else said

-- A host of the crate's turns beside the C call on the bytes of its replay, on a text of which it has come to a place.

-- the answer is the turn's own, and all that is lent is left as by it
pub record SameLeft (last : ℕ) (h : Host) (text : List ℕ) (at : ℕ) : Type 0 where
  pub answers : turn_answer_c (bytes_of h.replay) text at last h.rows h.store h.out (length h.buffer) ≡ (answer (last_c last) h).answer
  pub rows : turn_rows_c (bytes_of h.replay) text at last h.rows h.store h.out (length h.buffer) ≡ (called (last_c last) h).rows
  pub store : turn_store_c (bytes_of h.replay) text at last h.rows h.store h.out (length h.buffer) ≡ (called (last_c last) h).store
  pub out : turn_out_c (bytes_of h.replay) text at last h.rows h.store h.out (length h.buffer) ≡ (called (last_c last) h).out
  pub buffer : turn_said_c (bytes_of h.replay) text at last h.rows h.store h.out h.buffer ≡ (called (last_c last) h).buffer

-- and where it is 0 the bytes are those of its replay, the place is that of the text which it has left, and what is written is what it has printed
pub record SameDone (last : ℕ) (h : Host) (text : List ℕ) (at : ℕ) : Type 0 where
  pub state : turn_state_c (bytes_of h.replay) text at last h.rows h.store h.out (length h.buffer) ≡ bytes_of (called (last_c last) h).replay
  pub text_left : drop (turn_at_c (bytes_of h.replay) text at last h.rows h.store h.out (length h.buffer)) text ≡ (called (last_c last) h).text
  pub printed : (given : ℕ)
      → h.said ++ take (turn_written_c (bytes_of h.replay) text at last h.rows h.store h.out (length h.buffer) given) (turn_said_c (bytes_of h.replay) text at last h.rows h.store h.out h.buffer)
      ≡ (called (last_c last) h).said
