-- A turn uses no more of a text than there is, and from a place on it leaves what a turn on the rest leaves.
use Rattle.std.specs.Prelude.{◌≡◌, ℕ, ◌+◌, ◌≤◌, Bool, true, false, cond, List, length, take, drop, ◌==◌, nat_lt}
use Rattle.std.proofs.Math.Path.{refl}
use Rattle.std.proofs.Common.{sym, drop-drop}
use native.Mathlib.Omega.{arith}
use borrow.Author.Tests.{ltb-true}
use Rattle.ground.specs.Finding.{index_of}
use Rattle.recording.specs.declared.opening.Opening.{Opening}
use Rattle.recording.specs.declared.opening.Opening.TheVariants as O
use Rattle.recording.specs.Theorems.Lines.{IsLine, going_to, is_line, line_going, line_opens, opens_to}
use Rattle.recording.specs.Theorems.Lines.IsLine.{frame, malformed}
use Rattle.recording.specs.declared.pairs.Settings.{Settings as GroupSettings}
use Rattle.recording.specs.declared.record.Record.{Record}
use Rattle.recording.specs.declared.record.Record.TheVariants.{Frame, Malformed, Long, Unfinished, End}
use Rattle.recording.specs.Line.{MOST, found_of}
use Rattle.recording.specs.Opening.{line_opening, opening_in}
use Rattle.recording.specs.Record.{last_record, line_record, record_in}
use Rattle.replay_lines.specs.declared.replay.Phase.{Phase}
use Rattle.replay_lines.specs.declared.replay.Phase.TheVariants.{Settings, Reading, Fetching, Skipping, Ended}
use Rattle.replay_lines.specs.declared.replay.Replay.{Replay}
use Rattle.replay_lines.specs.declared.turns.Replayed.{Replayed}
use Rattle.replay_lines.specs.Turn as T
use Rattle.text.specs.Text.{LINE-END}

-- the place of the next line is in the text, or at its end

abbrev OpensWithin : ℕ → Opening → Type 0
OpensWithin bytes (O.Settings s next) = next ≤ bytes
OpensWithin bytes O.Malformed = Unit {0}
OpensWithin bytes O.Unfinished = Unit {0}
OpensWithin bytes O.End = Unit {0}

to_within : (bytes n : ℕ) → n ≤ bytes → (x : Opening) → OpensWithin bytes (opens_to n x)
to_within bytes n h (O.Settings s next) = h
to_within bytes n h O.Malformed = tt
to_within bytes n h O.Unfinished = tt
to_within bytes n h O.End = tt

first_within : (bytes n : ℕ) (l : List ℕ) → n ≤ bytes → OpensWithin bytes (line_opening n l)
first_within bytes n l h = rw (line_opens n 0 l) (to_within bytes n h (line_opening 0 l))

opening_within : (last : Bool) (text : List ℕ) → OpensWithin (length text) (opening_in 0 last text)
unfolding opening_in found_of
opening_within last text = go (length text == 0) (nat_lt (index_of LINE-END text) (length text)) (nat_lt MOST (length text)) last refl refl refl
  where
    go : (a b c l : Bool) → (length text == 0) ≡ a → nat_lt (index_of LINE-END text) (length text) ≡ b → nat_lt MOST (length text) ≡ c → OpensWithin (length text) (opening_in 0 l text)
    go true b c l ea eb ec = rw ea tt
    go false true c l ea eb ec =
        rw (ea, eb) (first_within (length text) (0 + index_of LINE-END text + 1) (take (index_of LINE-END text) text) (let k = ltb-true (index_of LINE-END text) (length text) eb in omega arith))
    go false false true l ea eb ec = rw (ea, eb, ec) tt
    go false false false false ea eb ec = rw (ea, eb, ec) tt
    go false false false true ea eb ec = rw (ea, eb, ec) (first_within (length text) (0 + length text) text (omega arith))

abbrev LeadsWithin : ℕ → Record → Type 0
LeadsWithin bytes (Frame port h4 flag place next) = next ≤ bytes
LeadsWithin bytes (Malformed next) = next ≤ bytes
LeadsWithin bytes Long = Unit {0}
LeadsWithin bytes Unfinished = Unit {0}
LeadsWithin bytes End = Unit {0}

going_within : (bytes n : ℕ) → n ≤ bytes → {x : Record} → IsLine x → LeadsWithin bytes (going_to n x)
going_within bytes n h frame = h
going_within bytes n h malformed = h

line_within : (bytes ports size n : ℕ) (l : List ℕ) → n ≤ bytes → LeadsWithin bytes (line_record ports size 0 n l)
line_within bytes ports size n l h = rw (line_going ports size 0 n 0 l) (going_within bytes n h (is_line ports size 0 0 l))

-- a line is not open
pub line_closed : {x : Record} → IsLine x → T.is_open x ≡ false
line_closed frame = refl
line_closed malformed = refl

now_within : (ports size : ℕ) (last : Bool) (text : List ℕ) → LeadsWithin (length text) (T.record_now ports size last text)
unfolding T.record_now record_in found_of last_record
now_within ports size last text = go (length text == 0) (nat_lt (index_of LINE-END text) (length text)) (nat_lt MOST (length text)) last refl refl refl
  where
    go : (a b c l : Bool) → (length text == 0) ≡ a → nat_lt (index_of LINE-END text) (length text) ≡ b → nat_lt MOST (length text) ≡ c → LeadsWithin (length text) (T.record_now ports size l text)
    go true b c l ea eb ec = rw ea tt
    go false true c l ea eb ec =
        rw (ea, eb, line_closed (is_line ports size 0 (0 + index_of LINE-END text + 1) (take (index_of LINE-END text) text)))
        (line_within (length text) ports size (0 + index_of LINE-END text + 1) (take (index_of LINE-END text) text) (let k = ltb-true (index_of LINE-END text) (length text) eb in omega arith))
    go false false true l ea eb ec = rw (ea, eb, ec) tt
    go false false false false ea eb ec = rw (ea, eb, ec) tt
    go false false false true ea eb ec = rw (ea, eb, ec) (line_within (length text) ports size (0 + length text) text (omega arith))

module _ (r : Replay) (text : List ℕ) (last : Bool) where
  open_uses : (rows store said : ℕ) → (T.open_turn r text last rows store said).used ≤ length text
  unfolding T.open_turn T.open_with_turn T.answered_turn
  open_uses rows store said = go (T.open_lent rows said) (opening_in 0 last text) (opening_within last text)
    where
      set : (g : GroupSettings) (next : ℕ) → next ≤ length text → (b : Bool) → (cond b (T.started_turn r g next) (T.answered_turn r Ended 4 0)).used ≤ length text
      set g next h true = h
      set g next h false = omega arith

      go : (b : Bool) (x : Opening) → OpensWithin (length text) x → (cond b (T.open_turn_by r store x) (T.refused_turn r)).used ≤ length text
      go true (O.Settings g next) h = set g next h (T.startable g store)
      go true O.Malformed h = omega arith
      go true O.Unfinished h = omega arith
      go true O.End h = omega arith
      go false x h = omega arith

  read_uses : (rows store out said : ℕ) → (T.read_turn r text last rows store out said).used ≤ length text
  unfolding T.read_turn T.framed_turn T.answered_turn
  read_uses rows store out said = go (T.is_lent r rows store out said) (T.now_in r text last) (now_within r.ports r.size last text)
    where
      go : (b : Bool) (x : Record) → LeadsWithin (length text) x → (cond b (T.read_by r text x) (T.refused_turn r)).used ≤ length text
      go true (Frame port h4 flag place next) h = h
      go true (Malformed next) h = h
      go true Long h = omega arith
      go true Unfinished h = omega arith
      go true End h = omega arith
      go false x h = omega arith

  skip_uses : (T.skip_turn r text last).used ≤ length text
  unfolding T.skip_turn
  skip_uses = go (nat_lt (index_of LINE-END text) (length text)) refl
    where
      go : (b : Bool) → nat_lt (index_of LINE-END text) (length text) ≡ b
          → (cond b (T.turned (T.in_phase r Reading r.line 0) (index_of LINE-END text + 1) 0 false) (T.turned (T.in_phase r (T.skipped_to last) r.line 0) (length text) 0 true)).used ≤ length text
      go true e = let k = ltb-true (index_of LINE-END text) (length text) e in omega arith
      go false e = omega arith

report_uses : (r : Replay) (rows : List (List ℕ)) (store out : List ℕ) (said : ℕ) → (T.report_turn r rows store out said).used ≡ 0
unfolding T.report_turn T.fetched_turn T.reported_turn T.read_on_turn
report_uses r rows store out said = go (T.is_lent r (length rows) (length store) (length out) said) (nat_lt 0 r.left) (T.is_due r rows store out)
  where
    go : (a b c : Bool)
        → (cond a (cond b (cond c (T.reported_turn r (length (T.report_printed r rows store out))) (T.read_on_turn r)) (T.read_on_turn r)) (T.refused_turn r)).used ≡ 0
    go true true true = refl
    go true true false = refl
    go true false c = refl
    go false b c = refl

pub turn_uses : (r : Replay) (text : List ℕ) (last : Bool) (rows : List (List ℕ)) (store out : List ℕ) (said : ℕ) → (T.turn_of r text last rows store out said).used ≤ length text
unfolding T.turn_of
turn_uses r text last rows store out said = by r.phase
  where
    by : (p : Phase) → (T.turn_by p r text last rows store out said).used ≤ length text
    by Settings = open_uses r text last (length rows) (length store) said
    by Reading = read_uses r text last (length rows) (length store) (length out) said
    by Fetching = let e = report_uses r rows store out said in omega arith
    by Skipping = skip_uses r text last
    by Ended = omega arith

-- what is left of the text behind the place that it hands back
pub left_behind : (at : ℕ) (t : Replayed) (text : List ℕ) → drop (T.placed at t).used text ≡ drop t.used (drop at text)
unfolding T.placed
left_behind at t text = sym (drop-drop t.used at text)
