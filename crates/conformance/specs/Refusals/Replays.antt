-- The refusals of a replay's turn: 9 where what is lent is too short for the line that is to come. 13 and 4 are of lines, and are printed; of the lengths that a first line asks for they are answers.
use Rattle.std.specs.Prelude.{◌≡◌, refl, Bool, true, false, ◌&&◌, List, [], ◌∷◌, ℕ, ◌+◌, ◌*◌, drop, length, take, if◌then◌else◌, ◌==◌}
use Rattle.std.proofs.Common.{◌∙◌, sym, arith, ne_eqb}
use Rattle.std.proofs.lemmas.Bool.{false≢true}
use Rattle.ground.specs.Flags.{one_if}
use Rattle.ground.specs.Plain.{◌<?◌, ◌≤?◌}
use Rattle.ground.specs.Finding.{index_of}
use Rattle.c_recordings.specs.Replays.{begin_answer_c, begin_state_c, bytes_of, last_c, lengths_answer_c, out_length_c, replay_of, store_length_c, turn_answer_c, turn_at_c, turn_out_c, turn_rows_c, turn_said_c, turn_state_c, turn_store_c, turn_wants_c, turn_written_c}
use Rattle.conformance.specs.Refusals.Entries.{Call, Copes, Refusal, Unless, copes, done, stateful}
use Rattle.conformance.specs.Refusals.Receivers.{start_ranged, times_in_range}
use Rattle.packet.specs.Kinds.{frames, payload_right, tags}
use Rattle.phases.specs.Sizes.{known_kind, sized, start_sized}
use Rattle.receiver.specs.Starting.{times_within}
use Rattle.recording.specs.declared.opening.Opening.{Opening}
use Rattle.recording.specs.declared.opening.Opening.TheVariants as O
use Rattle.recording.specs.declared.pairs.Settings.{Settings as GroupSettings}
use Rattle.recording.specs.declared.record.Record.{Record}
use Rattle.recording.specs.declared.record.Record.TheVariants as R
use Rattle.recording.specs.Opening.{opening_in}
use Rattle.replay_lines.specs.declared.replay.Phase.{Phase}
use Rattle.replay_lines.specs.declared.replay.Phase.TheVariants.{Settings, Reading, Fetching, Skipping, Ended}
use Rattle.replay_lines.specs.declared.replay.Replay.{Replay}
use Rattle.replay_lines.specs.declared.turns.Replayed.{Replayed}
use Rattle.replay_lines.specs.Lengths.{in_range, lengths_by, lengths_in, lengths_of, lengths_with, no_lengths}
use Rattle.replay_lines.specs.Turn.{answered_turn, fetched_turn, framed_turn, is_due, is_lent, open_rows, open_said, open_turn, open_turn_by, open_with_turn, placed, read_by, read_on_turn, read_rows, read_said, read_store, read_turn, record_now, report_out, report_rows, report_said, report_turn, reported_turn, skip_turn, startable, times_fit, turn_of, turn_out, turn_rows, turn_said, turn_store}
use Rattle.text.specs.Text.{LINE-END}

-- room for what one turn prints, and the rows of 64 ports before the first line
abbrev open_lent : ℕ → ℕ → Bool
open_lent rows said = 1219 ≤? said && 321 ≤? rows

-- then those of the group, its store and the output of an epoch
abbrev group_lent : (r : Replay) (rows store out said : ℕ) → Bool
group_lent r rows store out said =
    1219 ≤? said && r.ports ≤? 64 && r.size ≤? 2340 && r.ports * 5 + 1 ≤? rows && r.ports * r.window * (r.size + 1) ≤? store && r.ports * frames r.kind * r.size ≤? out

abbrev lent_refusals : (phase : Phase) (r : Replay) (rows store out said : ℕ) → List Refusal
lent_refusals Settings r rows store out said = Unless 9 (open_lent rows said) ∷ []
lent_refusals Reading r rows store out said = Unless 9 (group_lent r rows store out said) ∷ []
lent_refusals Fetching r rows store out said = Unless 9 (group_lent r rows store out said) ∷ []
lent_refusals Skipping r rows store out said = []
lent_refusals Ended r rows store out said = []

-- on the text from the place on
abbrev turn_from : Replay × List ℕ × Bool × List (List ℕ) × List ℕ × List ℕ × List ℕ → Call
turn_from (replay, text, last, rows, store, out, said) =
    stateful (lent_refusals replay.phase replay (length rows) (length store) (length out) (length said))
    (turn_of replay text last rows store out (length said)).answer
    (store ∷ out ∷ said ∷ [])
    (turn_store replay text last rows store out (length said) ∷ turn_out replay rows store out (length said) ∷ turn_said replay text last rows store out said ∷ [])
    rows
    (turn_rows replay text last rows store out (length said))
    rows

either_done : (b : Bool) (x y : Replayed) → x.answer ≡ 0 → y.answer ≡ 0 → (if b then x else y).answer ≡ 0
either_done true x y e f = e
either_done false x y e f = f

open_done : (r : Replay) (store : ℕ) (x : Opening) → (open_turn_by r store x).answer ≡ 0
unfolding open_with_turn answered_turn
open_done r store (O.Settings s next) = either_done (startable s store) _ _ refl refl
open_done r store O.Malformed = refl
open_done r store O.Unfinished = refl
open_done r store O.End = refl

read_done : (r : Replay) (text : List ℕ) (x : Record) → (read_by r text x).answer ≡ 0
unfolding framed_turn answered_turn
read_done r text (R.Frame port h4 flag place next) = refl
read_done r text (R.Malformed next) = refl
read_done r text R.Long = refl
read_done r text R.Unfinished = refl
read_done r text R.End = refl

fetched_done : (r : Replay) (rows : List (List ℕ)) (store out : List ℕ) → (fetched_turn r rows store out).answer ≡ 0
unfolding fetched_turn reported_turn read_on_turn
fetched_done r rows store out = either_done (is_due r rows store out) _ _ refl refl

on_done : (r : Replay) → (read_on_turn r).answer ≡ 0
unfolding read_on_turn
on_done r = refl

skip_done : (r : Replay) (text : List ℕ) (last : Bool) → (skip_turn r text last).answer ≡ 0
unfolding skip_turn
skip_done r text last = either_done (index_of LINE-END text <? length text) _ _ refl refl

by_phase : (phase : Phase) (line left kind ports size window : ℕ) (text : List ℕ) (last : Bool) (rows : List (List ℕ)) (store out said : List ℕ)
    → Copes (turn_from (record { phase = phase; line = line; left = left; kind = kind; ports = ports; size = size; window = window }, text, last, rows, store, out, said))
unfolding turn_of turn_rows turn_store turn_out turn_said open_turn open_rows open_said read_turn read_rows read_store read_said report_turn report_rows report_out report_said is_lent
by_phase Settings line left kind ports size window text last rows store out said = copes _ (λ b. rw b (open_done _ (length store) (opening_in 0 last text)), λ b. rw b (refl, refl, refl))
by_phase Reading line left kind ports size window text last rows store out said = copes _ (λ b. rw b (read_done _ text (record_now ports size last text)), λ b. rw b (refl, refl, refl))
by_phase Fetching line left kind ports size window text last rows store out said =
    copes _ (λ b. rw b (either_done (0 <? left) _ _ (fetched_done _ rows store out) (on_done _)), λ b. rw b (refl, refl, refl))
by_phase Skipping line left kind ports size window text last rows store out said = done _ (skip_done _ text last)
by_phase Ended line left kind ports size window text last rows store out said = done _ refl

from_copes : (x : Replay × List ℕ × Bool × List (List ℕ) × List ℕ × List ℕ × List ℕ) → Copes (turn_from x)
from_copes (replay, text, last, rows, store, out, said) = by_phase replay.phase replay.line replay.left replay.kind replay.ports replay.size replay.window text last rows store out said

-- What a first line asks to be lent.

abbrev reads : Opening → Bool
reads (O.Settings s next) = true
reads O.Malformed = false
reads O.Unfinished = false
reads O.End = false

-- settings in range, as of a receiver's start; times are asked of as many ports as there are
abbrev ranged_in : GroupSettings → Bool
ranged_in s =
    start_ranged s.kind s.ports s.size s.window && (times_in_range (take s.ports s.hold_off) && times_in_range (take s.ports s.restore))

abbrev settings_ranged : Opening → Bool
settings_ranged (O.Settings s next) = ranged_in s
settings_ranged O.Malformed = false
settings_ranged O.Unfinished = false
settings_ranged O.End = false

lengths_are : (s : GroupSettings) → lengths_in s ≡ (if ranged_in s then lengths_with s else no_lengths 4)
unfolding lengths_in in_range times_fit times_within known_kind payload_right sized start_sized frames tags
lengths_are s = refl

abbrev first_refusals : Opening → List Refusal
first_refusals opening = Unless 13 (reads opening) ∷ Unless 4 (settings_ranged opening) ∷ []

-- There are no lengths before the call, so noughts stand for what is given.
abbrev pub lengths : List ℕ → Call
lengths text = stateful {S = ℕ × ℕ} (first_refusals (opening_in 0 true text)) (lengths_of text).answer [] [] (0, 0) ((lengths_of text).store, (lengths_of text).out) (0, 0)

lengths_by_lem : (o : Opening) → Copes (stateful {S = ℕ × ℕ} (first_refusals o) (lengths_by o).answer [] [] (0, 0) ((lengths_by o).store, (lengths_by o).out) (0, 0))
lengths_by_lem (O.Settings s next) = copes _ (λ r. (λ t. rw (lengths_are s, t) refl, λ t. rw (lengths_are s, t) (refl, refl, refl)), λ r. absurd (false≢true (sym r)))
lengths_by_lem O.Malformed = copes _ (λ r. absurd (false≢true r), λ r. (refl, refl, refl))
lengths_by_lem O.Unfinished = copes _ (λ r. absurd (false≢true r), λ r. (refl, refl, refl))
lengths_by_lem O.End = copes _ (λ r. absurd (false≢true r), λ r. (refl, refl, refl))

pub lengths_copes : (text : List ℕ) → Copes (lengths text)
unfolding lengths_of
lengths_copes text = lengths_by_lem (opening_in 0 true text)

abbrev pub lengths_c : List ℕ × ℕ × ℕ → Call
lengths_c (recording, store, out) =
    stateful {S = ℕ × ℕ} (first_refusals (opening_in 0 true recording)) (lengths_answer_c recording) [] [] (store, out) (store_length_c recording store, out_length_c recording out) (store, out)

lengths_c_by : (o : Opening) (store out : ℕ)
    → Copes (stateful {S = ℕ × ℕ} (first_refusals o) (lengths_by o).answer [] [] (store, out) (if (lengths_by o).answer == 0 then (lengths_by o).store else store, if (lengths_by o).answer == 0 then (lengths_by o).out else out) (store, out))
lengths_c_by (O.Settings s next) store out = copes _ (λ r. (λ t. rw (lengths_are s, t) refl, λ t. rw (lengths_are s, t) (refl, refl, refl)), λ r. absurd (false≢true (sym r)))
lengths_c_by O.Malformed store out = copes _ (λ r. absurd (false≢true r), λ r. (refl, refl, refl))
lengths_c_by O.Unfinished store out = copes _ (λ r. absurd (false≢true r), λ r. (refl, refl, refl))
lengths_c_by O.End store out = copes _ (λ r. absurd (false≢true r), λ r. (refl, refl, refl))

pub lengths_c_copes : (x : List ℕ × ℕ × ℕ) → Copes (lengths_c x)
unfolding lengths_of store_length_c out_length_c
lengths_c_copes (recording, store, out) = lengths_c_by (opening_in 0 true recording) store out

-- The replay for C.

abbrev pub begin_c : List ℕ → Call
begin_c state = stateful (Unless 9 (length state == 17) ∷ []) (begin_answer_c state) [] [] state (begin_state_c state) state

pub begin_c_copes : (state : List ℕ) → Copes (begin_c state)
unfolding begin_answer_c begin_state_c
begin_c_copes state = copes _ (λ b. rw b refl, λ b. rw b (refl, refl, refl))

abbrev pub turn : Replay × List ℕ × ℕ × Bool × List (List ℕ) × List ℕ × List ℕ × List ℕ → Call
turn (replay, text, at, last, rows, store, out, said) =
    stateful (lent_refusals replay.phase replay (length rows) (length store) (length out) (length said))
    (placed at (turn_of replay (drop at text) last rows store out (length said))).answer
    (store ∷ out ∷ said ∷ [])
    (turn_store replay (drop at text) last rows store out (length said) ∷ turn_out replay rows store out (length said) ∷ turn_said replay (drop at text) last rows store out said ∷ [])
    rows
    (turn_rows replay (drop at text) last rows store out (length said))
    rows

pub turn_copes : (x : Replay × List ℕ × ℕ × Bool × List (List ℕ) × List ℕ × List ℕ × List ℕ) → Copes (turn x)
unfolding placed
turn_copes (replay, text, at, last, rows, store, out, said) = from_copes (replay, drop at text, last, rows, store, out, said)

abbrev pub turn_c : List ℕ × List ℕ × ℕ × ℕ × List (List ℕ) × List ℕ × List ℕ × List ℕ × ℕ × ℕ → Call
turn_c (state, text, at, last, rows, store, out, said, written, wants) =
    stateful {S = List ℕ × ℕ × List (List ℕ) × ℕ × ℕ} (Unless 9 (length state == 17) ∷ Unless 9 (at ≤? length text) ∷ lent_refusals (replay_of state).phase (replay_of state) (length rows) (length store) (length out) (length said))
    (turn_answer_c state text at last rows store out (length said))
    (store ∷ out ∷ said ∷ [])
    (turn_store_c state text at last rows store out (length said) ∷ turn_out_c state text at last rows store out (length said) ∷ turn_said_c state text at last rows store out said ∷ [])
    (state, at, rows, written, wants)
    (turn_state_c state text at last rows store out (length said), turn_at_c state text at last rows store out (length said), turn_rows_c state text at last rows store out (length said), turn_written_c state text at last rows store out (length said) written, turn_wants_c state text at last rows store out (length said) wants)
    (state, at, rows, written, wants)

module _ (r : Replay) (text : List ℕ) (last : Bool) (rows : List (List ℕ)) (store out said : List ℕ) (state : List ℕ) (at written wants : ℕ) where
  abbrev own : Replayed
  own = turn_of r text last rows store out (length said)

  -- a turn behind two tests
  abbrev behind_tests : (p q : Bool) → Call
  behind_tests p q =
      stateful {S = List ℕ × ℕ × List (List ℕ) × ℕ × ℕ} (Unless 9 p ∷ Unless 9 q ∷ lent_refusals r.phase r (length rows) (length store) (length out) (length said))
      (if p && q then own.answer else 9)
      (store ∷ out ∷ said ∷ [])
      ((if p && q then turn_store r text last rows store out (length said) else store)
      ∷ (if p && q then turn_out r rows store out (length said) else out)
      ∷ (if p && q then turn_said r text last rows store out said else said)
      ∷ [])
      (state, at, rows, written, wants)
      (if (if p && q then own.answer else 9) == 0 then bytes_of own.replay else state, if (if p && q then own.answer else 9) == 0 then at + own.used else at, if p && q then turn_rows r text last rows store out (length said) else rows, if (if p && q then own.answer else 9) == 0 then own.written else written, if (if p && q then own.answer else 9) == 0 then one_if own.wants else wants)
      (state, at, rows, written, wants)

  c : Copes (turn_from (r, text, last, rows, store, out, said))
  c = from_copes (r, text, last, rows, store, out, said)

  -- under an answer other than 0 the caller's own stay, where the rows do
  stays : (own.answer ≡ 0 → ⊥) → turn_rows r text last rows store out (length said) ≡ rows → (behind_tests true true).returned ≡ (state, at, rows, written, wants)
  stays d e = rw (ne_eqb own.answer 0 d, e) refl

  tests_cope : (p q : Bool) → Copes (behind_tests p q)
  tests_cope true true =
      record {
        answers = c.answers;
        untouched = c.untouched;
        as_given = λ k. stays (λ z. false≢true (rw (sym c.answers ∙ z) at k)) (c.as_given k);
        emptied = λ f. stays (λ z. let y = sym (c.answers ∙ f) ∙ z in omega arith) (c.emptied f);
      }
  tests_cope true false = record { answers = refl; untouched = λ d. refl; as_given = λ k. refl; emptied = λ f. refl }
  tests_cope false q = record { answers = refl; untouched = λ d. refl; as_given = λ k. refl; emptied = λ f. refl }

pub turn_c_copes : (x : List ℕ × List ℕ × ℕ × ℕ × List (List ℕ) × List ℕ × List ℕ × List ℕ × ℕ × ℕ) → Copes (turn_c x)
unfolding turn_answer_c turn_state_c turn_at_c turn_rows_c turn_store_c turn_out_c turn_said_c turn_written_c turn_wants_c
turn_c_copes (state, text, at, last, rows, store, out, said, written, wants) =
    tests_cope (replay_of state) (drop at text) (last_c last) rows store out said state at written wants (length state == 17) (at ≤? length text)
