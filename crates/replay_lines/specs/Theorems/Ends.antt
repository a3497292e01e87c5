-- A host that calls until more text is wanted comes to an end (2026-05): each call uses up text or one of the fetches behind a frame.
use Rattle.std.specs.Prelude.{◌≡◌, ℕ, zero, suc, ◌+◌, ◌*◌, ◌<◌, ◌≤◌, Bool, true, false, cond, ◌⊎◌, List, [], ◌∷◌, length, drop, ◌==◌, ◌≢◌, nat_eq, nat_lt}
use Rattle.std.proofs.Math.Path.{refl}
use Rattle.std.proofs.Math.Logic.{inl, inr}
use Rattle.std.proofs.Common.{⊎_elim, arith}
use lib.ListN.{length-drop}
use borrow.Author.Tests.{eqb-false, ltb-true}
use Rattle.ground.specs.Finding.{index_of}
use Rattle.ground.specs.Truth.{or_right}
use Rattle.recording.specs.declared.opening.Opening.{Opening}
use Rattle.recording.specs.declared.opening.Opening.TheVariants as O
use Rattle.recording.specs.Theorems.Lines.{IsLine, going_to, is_line, line_going}
use Rattle.recording.specs.Theorems.Lines.IsLine.{frame, malformed}
use Rattle.recording.specs.declared.pairs.Settings.{Settings as GroupSettings}
use Rattle.recording.specs.declared.record.Record.{Record}
use Rattle.recording.specs.declared.record.Record.TheVariants.{Frame, Malformed, Long, Unfinished, End}
use Rattle.recording.specs.Line.{MOST, found_of}
use Rattle.recording.specs.Opening.{opening_in}
use Rattle.recording.specs.Record.{last_record, line_record, record_in}
use Rattle.replay_lines.specs.declared.replay.Phase.{Phase}
use Rattle.replay_lines.specs.declared.replay.Phase.TheVariants.{Settings, Reading, Fetching, Skipping, Ended}
use Rattle.replay_lines.specs.declared.replay.Replay.{Replay}
use Rattle.replay_lines.specs.declared.turns.Replayed.{Replayed}
use Rattle.replay_lines.specs.Deeds.{Deed, begins_with, has_read, run, turns_left, wants_within, weight}
use Rattle.replay_lines.specs.Deeds.Deed.{Call, Close, Read}
use Rattle.replay_lines.specs.Laws.Starts.{small, start_sized_lem}
use Rattle.replay_lines.specs.Theorems.Used.{line_closed}
use Rattle.replay_lines.specs.Replay.{next_line}
use Rattle.replay_lines.specs.Runs.{Host, answer, called, calls}
use Rattle.replay_lines.specs.Turn as T
use Rattle.text.specs.Text.{LINE-END}

-- what a call leaves of it
abbrev leaves : Replayed → List ℕ → ℕ
leaves a text = weight (length (drop a.used text)) a.replay.phase a.replay.left

record Goes (from : ℕ) (text : List ℕ) (a : Replayed) : Type 0 where
  narrow : a.replay.window ≤ 2048
  on : (a.wants ≡ true) ⊎ (leaves a text < from)

-- a record that is a line has bytes, and leads to a place behind its first one
abbrev MovesOn : ℕ → Record → Type 0
MovesOn bytes (Frame port h4 flag place next) = (1 ≤ next) × (1 ≤ bytes)
MovesOn bytes (Malformed next) = (1 ≤ next) × (1 ≤ bytes)
MovesOn bytes Long = 1 ≤ bytes
MovesOn bytes Unfinished = Unit {0}
MovesOn bytes End = Unit {0}

going_moves : (bytes n : ℕ) → 1 ≤ n → 1 ≤ bytes → {x : Record} → IsLine x → MovesOn bytes (going_to n x)
going_moves bytes n h k frame = (h, k)
going_moves bytes n h k malformed = (h, k)

line_moves : (bytes ports size n : ℕ) (l : List ℕ) → 1 ≤ n → 1 ≤ bytes → MovesOn bytes (line_record ports size 0 n l)
line_moves bytes ports size n l h k = rw (line_going ports size 0 n 0 l) (going_moves bytes n h k (is_line ports size 0 0 l))

now_moves : (ports size : ℕ) (last : Bool) (text : List ℕ) → MovesOn (length text) (T.record_now ports size last text)
unfolding T.record_now record_in found_of last_record
now_moves ports size last text = go (length text == 0) (nat_lt (index_of LINE-END text) (length text)) (nat_lt MOST (length text)) last refl refl refl
  where
    some : nat_eq (length text) 0 ≡ false → 1 ≤ length text
    some e = by (length text) (eqb-false (length text) 0 e)
      where
        by : (n : ℕ) → (n ≢ 0) → 1 ≤ n
        by zero d = absurd (d refl)
        by (suc n) d = omega arith

    go : (a b c l : Bool) → (length text == 0) ≡ a → nat_lt (index_of LINE-END text) (length text) ≡ b → nat_lt MOST (length text) ≡ c → MovesOn (length text) (T.record_now ports size l text)
    go true b c l ea eb ec = rw ea tt
    go false true c l ea eb ec =
        rw (ea, eb, line_closed (is_line ports size 0 (0 + index_of LINE-END text + 1) (lib.ListN.take (index_of LINE-END text) text)))
        (line_moves (length text) ports size (0 + index_of LINE-END text + 1) (lib.ListN.take (index_of LINE-END text) text) (omega arith) (some ea))
    go false false true l ea eb ec = rw (ea, eb, ec) (some ea)
    go false false false false ea eb ec = rw (ea, eb, ec) tt
    go false false false true ea eb ec = rw (ea, eb, ec) (line_moves (length text) ports size (0 + length text) text (let s = some ea in omega arith) (some ea))

-- used text is shorter text
shorter : (n k : ℕ) (text : List ℕ) → 1 ≤ n → 1 ≤ length text → k ≤ 2049 → 2050 * length (drop n text) + k < 2050 * length text
shorter n k text h m e = let d = length-drop n text in omega arith

as_long : (n : ℕ) (text : List ℕ) → length (drop n text) ≤ length text
as_long n text = let d = length-drop n text in omega arith

narrow_set : (g : GroupSettings) (store : ℕ) → T.startable g store ≡ true → g.window ≤ 2048
narrow_set g store t = (small g (start_sized_lem g store t)).narrow

module _ (r : Replay) (text : List ℕ) (w : r.window ≤ 2048) where
  -- the first line
  open_goes : (last : Bool) (rows store said left : ℕ) → Goes (weight (length text) Settings left) text (T.open_turn r text last rows store said)
  unfolding T.open_turn T.open_with_turn T.answered_turn
  open_goes last rows store said left = go (T.open_lent rows said) (opening_in 0 last text)
    where
      set : (g : GroupSettings) (next : ℕ) (b : Bool) → T.startable g store ≡ b
          → Goes (weight (length text) Settings left) text (cond b (T.turned (record { phase = Reading; line = next_line r.line; left = 0; kind = g.kind; ports = g.ports; size = g.size; window = g.window }) next 0 false) (T.answered_turn r Ended 4 0))
      set g next true e = record { narrow = narrow_set g store e; on = inr (let d = as_long next text in omega arith) }
      set g next false e = record { narrow = w; on = inr (omega arith) }

      go : (b : Bool) (x : Opening) → Goes (weight (length text) Settings left) text (cond b (T.open_turn_by r store x) (T.refused_turn r))
      go true (O.Settings g next) = set g next (T.startable g store) refl
      go true O.Malformed = record { narrow = w; on = inr (omega arith) }
      go true O.Unfinished = record { narrow = w; on = inl refl }
      go true O.End = record { narrow = w; on = inl refl }
      go false x = record { narrow = w; on = inl refl }

  -- a line
  read_goes : (last : Bool) (rows store out said left : ℕ) → Goes (weight (length text) Reading left) text (T.read_turn r text last rows store out said)
  unfolding T.read_turn T.framed_turn T.answered_turn
  read_goes last rows store out said left = go (T.is_lent r rows store out said) (T.now_in r text last) (now_moves r.ports r.size last text)
    where
      go : (b : Bool) (x : Record) → MovesOn (length text) x → Goes (weight (length text) Reading left) text (cond b (T.read_by r text x) (T.refused_turn r))
      go true (Frame port h4 flag place next) s = record { narrow = w; on = inr (let d = shorter next (suc r.window) text s.0 s.1 (omega arith) in omega arith) }
      go true (Malformed next) s = record { narrow = w; on = inr (let d = shorter next 0 text s.0 s.1 (omega arith) in omega arith) }
      go true Long s = record { narrow = w; on = inr (let d = shorter (length text) 0 text s s (omega arith) in omega arith) }
      go true Unfinished s = record { narrow = w; on = inl refl }
      go true End s = record { narrow = w; on = inl refl }
      go false x s = record { narrow = w; on = inl refl }

  -- a report
  report_goes : (rows : List (List ℕ)) (store out : List ℕ) (said : ℕ) → Goes (weight (length text) Fetching r.left) text (T.report_turn r rows store out said)
  unfolding T.report_turn T.fetched_turn T.read_on_turn T.reported_turn
  report_goes rows store out said = go (T.is_lent r (length rows) (length store) (length out) said) (nat_lt 0 r.left) (T.is_due r rows store out) refl
    where
      go : (b c d : Bool) → nat_lt 0 r.left ≡ c
          → Goes (weight (length text) Fetching r.left) text (cond b (cond c (cond d (T.reported_turn r (length (T.report_printed r rows store out))) (T.read_on_turn r)) (T.read_on_turn r)) (T.refused_turn r))
      go true true true e = let z = ltb-true 0 r.left e in record { narrow = w; on = inr (omega arith) }
      go true true false e = record { narrow = w; on = inr (omega arith) }
      go true false d e = record { narrow = w; on = inr (omega arith) }
      go false c d e = record { narrow = w; on = inl refl }

  -- the rest of a line that is too long
  skip_goes : (last : Bool) (left : ℕ) → Goes (weight (length text) Skipping left) text (T.skip_turn r text last)
  unfolding T.skip_turn
  skip_goes last left = go (nat_lt (index_of LINE-END text) (length text)) refl
    where
      go : (b : Bool) → nat_lt (index_of LINE-END text) (length text) ≡ b
          → Goes (weight (length text) Skipping left) text (cond b (T.turned (T.in_phase r Reading r.line 0) (index_of LINE-END text + 1) 0 false) (T.turned (T.in_phase r (T.skipped_to last) r.line 0) (length text) 0 true))
      go true e =
          let z = ltb-true (index_of LINE-END text) (length text) e in
          record { narrow = w; on = inr (let d = shorter (index_of LINE-END text + 1) 0 text (omega arith) (omega arith) (omega arith) in omega arith) }
      go false e = record { narrow = w; on = inl refl }

-- one call, by the phase
phase_goes : (phase : Phase) (line left kind ports size window : ℕ) (text : List ℕ) (last : Bool) (rows : List (List ℕ)) (store out : List ℕ) (said : ℕ) → window ≤ 2048
    → Goes (weight (length text) phase left) text (T.turn_of (record { phase = phase; line = line; left = left; kind = kind; ports = ports; size = size; window = window }) text last rows store out said)
unfolding T.turn_of
phase_goes Settings line left kind ports size window text last rows store out said w = open_goes _ text w last (length rows) (length store) said left
phase_goes Reading line left kind ports size window text last rows store out said w = read_goes _ text w last (length rows) (length store) (length out) said left
phase_goes Fetching line left kind ports size window text last rows store out said w = report_goes _ text w rows store out said
phase_goes Skipping line left kind ports size window text last rows store out said w = skip_goes _ text w last left
phase_goes Ended line left kind ports size window text last rows store out said w = record { narrow = w; on = inl refl }

call_goes : (last : Bool) (h : Host) → h.replay.window ≤ 2048 → Goes (turns_left h) h.text (answer last h)
call_goes last h w =
    phase_goes h.replay.phase h.replay.line h.replay.left h.replay.kind h.replay.ports h.replay.size h.replay.window h.text last h.rows h.store h.out (length h.buffer) w

after_call : (last : Bool) (h : Host) → (turns_left (called last h) ≡ leaves (answer last h) h.text) × ((called last h).replay ≡ (answer last h).replay)
unfolding called
after_call last h = (refl, refl)

-- the host calls at most so often
pub ends : (n : ℕ) (last : Bool) (h : Host) → h.replay.window ≤ 2048 → turns_left h ≤ n → wants_within n last h ≡ true
unfolding wants_within
ends zero last h w e = ⊎_elim (λ (t : (answer last h).wants ≡ true). t) (λ (g : leaves (answer last h) h.text < turns_left h). absurd (omega arith)) (call_goes last h w).on
ends (suc n) last h w e =
    let g = call_goes last h w in
    let a = after_call last h in
    let v : (called last h).replay.window ≤ 2048 = rw a.1 g.narrow in
    ⊎_elim (λ (t : (answer last h).wants ≡ true). rw t refl)
    (λ (k : leaves (answer last h) h.text < turns_left h). or_right (answer last h).wants (wants_within n last (called last h)) (ends n last (called last h) v (let q = a.0 in omega arith)))
    g.on

-- a call leaves no wider window
pub called_narrow : (last : Bool) (h : Host) → h.replay.window ≤ 2048 → (called last h).replay.window ≤ 2048
called_narrow last h w = let g = call_goes last h w in let a = after_call last h in rw a.1 g.narrow

pub calls_narrow : (n : ℕ) (last : Bool) (h : Host) → h.replay.window ≤ 2048 → (calls n last h).replay.window ≤ 2048
unfolding calls
calls_narrow zero last h w = w
calls_narrow (suc n) last h w = go (answer last h).wants (calls_narrow n last (called last h) (called_narrow last h w))
  where
    go : (b : Bool) → (calls n last (called last h)).replay.window ≤ 2048 → (cond b (called last h) (calls n last (called last h))).replay.window ≤ 2048
    go true v = called_narrow last h w
    go false v = v

-- no replay that began has a wider window
run_narrow : (h : Host) (ds : List Deed) → h.replay.window ≤ 2048 → (run h ds).replay.window ≤ 2048
run_narrow h [] w = w
run_narrow h (Read part ∷ ds) w = run_narrow (has_read h part) ds w
run_narrow h (Call ∷ ds) w = run_narrow (called false h) ds (called_narrow false h w)
run_narrow h (Close ∷ ds) w = run_narrow (calls (suc (turns_left h)) true h) ds (calls_narrow (suc (turns_left h)) true h w)

-- Whatever a host has read, called and closed since the beginning: if it calls on until more text is wanted, it calls at most 2,050 times for each byte that is left, and as often
-- as fetches are open.
pub comes_to_end : (rows : List (List ℕ)) (store out buffer : List ℕ) (ds : List Deed) (last : Bool)
    → wants_within (turns_left (run (begins_with rows store out buffer) ds)) last (run (begins_with rows store out buffer) ds) ≡ true
comes_to_end rows store out buffer ds last =
    let h = run (begins_with rows store out buffer) ds in
    ends (turns_left h) last h (run_narrow (begins_with rows store out buffer) ds (omega arith)) (omega arith)
