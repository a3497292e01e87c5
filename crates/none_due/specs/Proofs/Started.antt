-- From the first line on: settings that are taken leave a replay that is ready, and every other first line ends it.
use Rattle.std.specs.Prelude.{◌≡◌, ◌&&◌, ℕ, ◌≤◌, eqb, leb, ltb, drop, length, take}
use Rattle.std.proofs.Math.Path.{refl, ap}
use Rattle.std.proofs.Common.{sym, ◌∙◌, arith, length-take-le, eq-eqb}
use Rattle.std.proofs.Math.Bool.{Bool, true, false}
use Rattle.std.proofs.lemmas.Bool.{false≢true}
use mathlib.Core.List.{List, [], ◌∷◌, ◌++◌}
use Rattle.std.proofs.lemmas.List.{length-replicate}
use Rattle.std.proofs.Math.Seq.{take-append_seam}
use Rattle.ground.specs.Truth.{and_left, and_right, or_right}
use Rattle.invariant.specs.Kept.Group.{Kept}
use Rattle.invariant.specs.Proofs.Kept.Start.{started_kept, started_with_lem}
use Rattle.none_due.specs.Desks.{Ready}
use Rattle.none_due.specs.Proofs.Desks.{stays_ready}
use Rattle.phases.specs.Due.{brought}
use Rattle.phases.specs.Sizes.{ports_in}
use Rattle.receiver.specs.Fetch.{due_in}
use Rattle.receiver.specs.Starting.{group_with, sized_answer, sized_fits, start_as_answer, start_fits, start_right, times_within}
use Rattle.recording.specs.Theorems.Lines.{is_settled, opening_settled}
use Rattle.recording.specs.declared.pairs.Settings.{Settings}
use Rattle.recording.specs.Laws.Times.{Timed, TimedIn, opening_timed}
use Rattle.recording.specs.declared.opening.Opening.{Opening}
use Rattle.recording.specs.Opening.{line_opening}
use Rattle.recording.specs.declared.opening.Opening.TheVariants as O
use Rattle.replay_lines.specs.declared.replay.Phase.{Phase}
use Rattle.replay_lines.specs.declared.replay.Phase.TheVariants as P
use Rattle.replay_lines.specs.Laws.Due.{due_at, none_due_lem}
use Rattle.replay_lines.specs.Laws.Lengths.{length_part, length_started_rows}
use Rattle.replay_lines.specs.Laws.Starts.{small, start_sized_lem}
use Rattle.replay_lines.specs.Replay.{beginning}
use Rattle.replay_lines.specs.Runs.{Desk, desk_after, desk_through, opened_by}
use Rattle.replay_lines.specs.Turn.{answered_turn, cleared_rows, hold_offs, is_sized, open_with_rows, open_with_turn, restores, startable, started_rows, store_in, times_fit}
use Rattle.rows.specs.declared.group.Group.{Group}
use Rattle.rows.specs.Group.{group_at}
use Rattle.rows.specs.Rows.{rows_for}
use Rattle.step.specs.Arrival.{flag_of}

-- the receiver's start answers 0
start_answer_lem : (s : Settings) (store : ℕ) → startable s store ≡ true → length (hold_offs s) ≡ s.ports → length (restores s) ≡ s.ports
    → start_as_answer s.kind s.ports s.size s.window (store_in s) (hold_offs s) (restores s) (rows_for s.ports) ≡ 0
unfolding start_as_answer sized_answer sized_fits start_fits start_right startable times_fit
start_answer_lem s store t a b =
    let z : is_sized s ≡ true = and_left (is_sized s) (times_fit s) (and_left (is_sized s && times_fit s) (leb (store_in s) store) t) in
    let f = and_right (is_sized s) (times_fit s) (and_left (is_sized s && times_fit s) (leb (store_in s) store) t) in
    let h = and_left (times_within (hold_offs s)) (times_within (restores s)) f in
    let r = and_right (times_within (hold_offs s)) (times_within (restores s)) f in
    let same : (n : ℕ) → eqb n n ≡ true = (λ (n : ℕ). eq-eqb n n refl) in
    rw (h, r, z, a, b, same s.ports, or_right (eqb s.ports 0) true refl, same (rows_for s.ports), same (store_in s)) refl

module _ (out : List ℕ) (d : Desk) (s : Settings) (next : ℕ) (full : 321 ≤ length d.rows) (timed : Timed s) (t : startable s (length d.store) ≡ true) where
  abbrev zs : List (List ℕ)
  zs = cleared_rows d.rows

  abbrev n : ℕ
  n = rows_for s.ports

  few : s.ports ≤ 64
  few = (small s (start_sized_lem s (length d.store) t)).ports_most

  enough_rows : rows_for s.ports ≤ length (cleared_rows d.rows)
  enough_rows = let l : length (cleared_rows d.rows) ≡ length d.rows = length-replicate (length d.rows) _ in let f = few in let g = full in omega arith

  answer : start_as_answer s.kind s.ports s.size s.window (store_in s) (hold_offs s) (restores s) (length (take n zs)) ≡ 0
  answer =
      rw (length-take-le n zs enough_rows)
      (start_answer_lem s (length d.store) t
      (length-take-le s.ports s.hold_off (let e = timed.hold in let f = few in omega arith))
      (length-take-le s.ports s.restore (let e = timed.restores in let f = few in omega arith)))

  own : take n (started_rows s (take n zs) ++ drop n zs) ≡ started_rows s (take n zs)
  own =
      let x = started_rows s (take n zs) in
      let e : length x ≡ n = length_started_rows s (take n zs) ∙ length-take-le n zs enough_rows in
      ap (λ (m : ℕ). take m (x ++ drop n zs)) (sym e) ∙ take-append_seam x (drop n zs)

  group : group_at (started_rows s (take n zs)) ≡ group_with s.kind s.ports s.size s.window
  unfolding started_rows
  group = started_with_lem s.kind s.ports s.size s.window (store_in s) (hold_offs s) (restores s) (take n zs) answer

  kept : Kept (started_rows s (take n zs))
  unfolding started_rows
  kept = started_kept s.kind s.ports s.size s.window (store_in s) (hold_offs s) (restores s) (take n zs) answer

  -- the receiver has not begun
  not_begun : due_at (started_rows s (take n zs)) ≡ false
  unfolding due_in
  not_begun = rw group (go (ltb 0 (ports_in (group_with s.kind s.ports s.size s.window))))
    where
      go : (b : Bool) → (b && false && flag_of (group_with s.kind s.ports s.size s.window).gathered && brought (group_with s.kind s.ports s.size s.window) (started_rows s (take n zs)) (ports_in (group_with s.kind s.ports s.size s.window))) ≡ false
      go true = refl
      go false = refl

  pub started_ready : Ready out (opened_by out d (O.Settings s next))
  unfolding open_with_turn open_with_rows
  started_ready =
      rw t
      (record {
        reading = refl;
        enough = let l = length_part n zs (started_rows s (take n zs)) enough_rows (length_started_rows s (take n zs)) in rw l enough_rows;
        kept = rw own kept;
        window = rw own (ap (λ (g : Group). g.window) group);
        none = none_due_lem _ _ _ out (rw own not_begun);
      })

-- an ended replay stays so
abbrev is_ended : Phase → Bool
is_ended P.Settings = false
is_ended P.Reading = false
is_ended P.Fetching = false
is_ended P.Skipping = false
is_ended P.Ended = true

ended_after : (out : List ℕ) (d : Desk) (line : List ℕ) → d.replay.phase ≡ P.Ended → (desk_after out d line).replay.phase ≡ P.Ended
unfolding desk_after
ended_after out d line e = rw e refl

ended_through : (out : List ℕ) (d : Desk) (lines : List (List ℕ)) → d.replay.phase ≡ P.Ended → (desk_through out d lines).replay.phase ≡ P.Ended
ended_through out d [] e = e
ended_through out d (l ∷ ls) e = ended_through out (desk_after out d l) ls (ended_after out d l e)

module _ (out : List ℕ) (rows : List (List ℕ)) (store : List ℕ) (full : 321 ≤ length rows) where
  abbrev first : Desk
  first = record { replay = beginning; rows = rows; store = store }

  opened : (x : Opening) → is_settled x ≡ true → TimedIn x → (ls : List (List ℕ)) → (desk_through out (opened_by out first x) ls).replay.phase ≡ P.Reading → Ready out (desk_through out (opened_by out first x) ls)
  unfolding open_with_turn answered_turn
  opened (O.Settings s next) k t ls r = go (startable s (length store)) refl
    where
      go : (b : Bool) → startable s (length store) ≡ b → Ready out (desk_through out (opened_by out first (O.Settings s next)) ls)
      go true e = stays_ready out (opened_by out first (O.Settings s next)) (started_ready out first s next full t e) ls
      go false e = absurd (false≢true (sym (ap is_ended r) ∙ ap is_ended (ended_through out (opened_by out first (O.Settings s next)) ls (rw e refl))))
  opened O.Malformed k t ls r = absurd (false≢true (sym (ap is_ended r) ∙ ap is_ended (ended_through out (opened_by out first O.Malformed) ls refl)))
  opened O.Unfinished k t ls r = absurd (false≢true k)
  opened O.End k t ls r = absurd (false≢true k)

  pub always_ready : (lines : List (List ℕ)) → (desk_through out first lines).replay.phase ≡ P.Reading → Ready out (desk_through out first lines)
  unfolding desk_after
  always_ready [] r = absurd (false≢true (ap is_settings r))
    where
      is_settings : Phase → Bool
      is_settings P.Settings = false
      is_settings P.Reading = true
      is_settings P.Fetching = true
      is_settings P.Skipping = true
      is_settings P.Ended = true
  always_ready (l ∷ ls) r = opened (line_opening 0 l) (opening_settled 0 l) (opening_timed 0 l) ls r
