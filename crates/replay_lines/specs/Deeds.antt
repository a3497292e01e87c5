-- What a host does with a recording that lies in parts, such as a day in files by the hour (2026-05): it reads, it calls, it closes a part.
use Rattle.std.specs.Prelude.{ℕ, zero, suc, ◌+◌, ◌*◌, Bool, true, false, ◌||◌, List, [], ◌∷◌, ◌++◌, length, if◌then◌else◌, ◌==◌}
use Rattle.ground.specs.Types.{Bytes, Rows}
use Rattle.replay_lines.specs.declared.replay.Phase.{Phase}
use Rattle.replay_lines.specs.declared.replay.Phase.TheVariants.{Settings, Reading, Fetching, Skipping, Ended}
use Rattle.replay_lines.specs.declared.replay.Replay.{Replay}
use Rattle.replay_lines.specs.Replay.{beginning}
use Rattle.replay_lines.specs.Runs.{Desk, Host, answer, called, calls}
use Rattle.replay_lines.specs.Turn.{turn_of, turn_rows, turn_store}
use Rattle.text.specs.Text.{LINE-END}

-- a host that begins
abbrev pub begins_with : (rows : Rows) (store out buffer : Bytes) → Host
begins_with rows store out buffer = record { replay = beginning; rows = rows; store = store; out = out; buffer = buffer; text = []; said = [] }

-- a call wants more text, at the latest after so many others
unfoldable pub wants_within : (n : ℕ) (last : Bool) (h : Host) → Bool
wants_within zero last h = (answer last h).wants
wants_within (suc n) last h = (answer last h).wants || wants_within n last (called last h)

-- what a phase asks for before the next line
abbrev pub stage : (phase : Phase) (left : ℕ) → ℕ
stage Settings left = 1
stage Reading left = 0
stage Fetching left = suc left
stage Skipping left = 0
stage Ended left = 0

-- W is at most 2,048: a frame, so many fetches, and one that gives nothing
abbrev pub weight : (bytes : ℕ) (phase : Phase) (left : ℕ) → ℕ
weight bytes phase left = 2050 * bytes + stage phase left

abbrev pub turns_left : (h : Host) → ℕ
turns_left h = weight (length h.text) h.replay.phase h.replay.left

-- it reads more of a part behind the text that is left, it calls, or it closes the part: the text that is left is its last, and the host calls until more is wanted
pub data Deed : Type 0 where
  Read : (more : Bytes) → Deed
  Call : Deed
  Close : Deed

abbrev pub has_read : (h : Host) (more : Bytes) → Host
has_read h more = record { replay = h.replay; rows = h.rows; store = h.store; out = h.out; buffer = h.buffer; text = h.text ++ more; said = h.said }

-- no host calls more often until more is wanted (`ends` of Theorems/Ends.antt)
abbrev pub closed : (h : Host) → Host
closed h = calls (suc (turns_left h)) true h

abbrev pub does : (h : Host) (deed : Deed) → Host
does h (Read more) = has_read h more
does h Call = called false h
does h Close = closed h

abbrev pub run : (h : Host) (deeds : List Deed) → Host
run h [] = h
run h (d ∷ ds) = run (does h d) ds

-- the last line of a part, 'with or without its end': joined to another, it has one
abbrev pub with_end : (text : Bytes) → Bytes
with_end [] = []
with_end (b ∷ []) = if b == LINE-END then b ∷ [] else b ∷ LINE-END ∷ []
with_end (b ∷ c ∷ text) = b ∷ with_end (c ∷ text)

-- the joined recording: the parts that it has closed, and what it has read of the part that is not closed, which is `part` before the deeds
abbrev pub joined_from : (part : Bytes) (deeds : List Deed) → Bytes
joined_from part [] = part
joined_from part (Read more ∷ ds) = joined_from (part ++ more) ds
joined_from part (Call ∷ ds) = joined_from part ds
joined_from part (Close ∷ ds) = with_end part ++ joined_from [] ds

abbrev pub joined : (deeds : List Deed) → Bytes
joined ds = joined_from [] ds

-- and at the end of the recording it calls so often, with the last text
abbrev pub last_calls : (n : ℕ) (h : Host) → Host
last_calls zero h = h
last_calls (suc n) h = last_calls n (called true h)

-- a replay with the rows and the store that are lent to it
abbrev pub desk_with : (replay : Replay) (rows : Rows) (store : Bytes) → Desk
desk_with replay rows store = record { replay = replay; rows = rows; store = store }

-- one turn, on whatever text and with whatever output and room
abbrev pub turned_on : (d : Desk) (text : Bytes) (last : Bool) (out : Bytes) (said : ℕ) → Desk
turned_on d text last out said =
    desk_with (turn_of d.replay text last d.rows d.store out said).replay (turn_rows d.replay text last d.rows d.store out said) (turn_store d.replay text last d.rows d.store out said)

-- 'with the state carried over': a replay, its rows and its store that go on from others by turns alone
pub data Carried (from : Desk) : Desk → Type 0 where
  same : Carried from from
  turned : {d : Desk} → Carried from d → (text : Bytes) (last : Bool) (out : Bytes) (said : ℕ) → Carried from (turned_on d text last out said)
