-- What a frame does, case by case: each way through taken_of with its tests, and all of them at once.
use Rattle.std.specs.Prelude.{◌≡◌, Bool, true, false, cond, not, ◌&&◌, ℕ, ltb}
use Rattle.std.proofs.Math.Path.{refl}
use Rattle.std.proofs.lemmas.Bool.{not-true, not-false}
use Rattle.ground.specs.Truth.{and_left, and_right, cond_by}
use Rattle.packet.specs.Kinds.{starts_epoch}
use Rattle.rows.specs.declared.group.Group.{Group}
use Rattle.rows.specs.declared.step.Step.{Step}
use Rattle.step.specs.declared.arrival.Taken.{Taken}
use Rattle.step.specs.declared.run.Run.{Run}
use Rattle.step.specs.Arrival.{arrives, frame_dropped, by_start, by_window, counts_on, distance_in, flagged, flag_of, joining, keeps, outside, run_of, taken_of}
use Rattle.step.specs.Run.{in_step_at, run_on}

-- a port's run after a frame that is not flagged, and that ends an odd packet or not
abbrev pub ran_on : Group → Step → Bool → ℕ → Run
ran_on g s odd h = run_on g.kind (run_of s) odd h

-- whether it is then in step
abbrev pub stepped : Group → Step → Bool → ℕ → Bool
stepped g s odd h = in_step_at g.kind (ran_on g s odd h).count

-- whether the tag to come lies in the window
abbrev pub in_window : Group → Step → Bool
in_window g s = ltb (distance_in g s.next) g.window

module _ (g : Group) (s : Step) (flag odd : Bool) (h : ℕ) where
  -- not in step after this frame
  pub taken_counts : flag ≡ false → stepped g s odd h ≡ false → taken_of g s flag odd h ≡ counts_on g s (ran_on g s odd h)
  unfolding taken_of
  taken_counts f e = rw (f, e) refl

  -- in step before the beginning
  pub taken_dropped : flag ≡ false → stepped g s odd h ≡ true → flag_of g.begun ≡ false → taken_of g s flag odd h ≡ frame_dropped g s (ran_on g s odd h)
  unfolding taken_of arrives
  taken_dropped f e b = rw (f, e, b) refl

  -- joined, and in the window
  pub taken_keeps : flag ≡ false → stepped g s odd h ≡ true → flag_of g.begun ≡ true → flag_of s.joined ≡ true → in_window g s ≡ true → taken_of g s flag odd h ≡ keeps g s (ran_on g s odd h) (distance_in g s.next)
  unfolding taken_of arrives by_window
  taken_keeps f e b j w = rw (f, e, b, j, w) refl

  -- not joined, at an epoch start in the window
  pub taken_joins : flag ≡ false → stepped g s odd h ≡ true → flag_of g.begun ≡ true → flag_of s.joined ≡ false → starts_epoch g.kind s.next ≡ true → in_window g s ≡ true → taken_of g s flag odd h ≡ joining g s (ran_on g s odd h) (distance_in g s.next)
  unfolding taken_of arrives by_start
  taken_joins f e b j t w = rw (f, e, b, j, t, w) refl

  -- not joined, at any other frame
  pub taken_waits : flag ≡ false → stepped g s odd h ≡ true → flag_of g.begun ≡ true → flag_of s.joined ≡ false → (starts_epoch g.kind s.next && in_window g s) ≡ false → taken_of g s flag odd h ≡ frame_dropped g s (ran_on g s odd h)
  unfolding taken_of arrives by_start
  taken_waits f e b j w = rw (f, e, b, j, w) refl

-- what holds of each case holds of what a frame does
pub taken_by :
    (P : Taken → Type 0)
    (g : Group)
    (s : Step)
    (flag odd : Bool)
    (h : ℕ) →
    (flag ≡ true → P (flagged g s)) →
    (flag ≡ false → stepped g s odd h ≡ false → P (counts_on g s (ran_on g s odd h))) →
    (flag ≡ false → stepped g s odd h ≡ true → flag_of g.begun ≡ false → P (frame_dropped g s (ran_on g s odd h))) →
    (flag ≡ false → stepped g s odd h ≡ true → flag_of g.begun ≡ true → flag_of s.joined ≡ true → in_window g s ≡ true → P (keeps g s (ran_on g s odd h) (distance_in g s.next))) →
    (flag ≡ false → stepped g s odd h ≡ true → flag_of g.begun ≡ true → flag_of s.joined ≡ true → in_window g s ≡ false → P (outside s)) →
    (flag ≡ false → stepped g s odd h ≡ true → flag_of g.begun ≡ true → flag_of s.joined ≡ false → starts_epoch g.kind s.next ≡ true → in_window g s ≡ true → P (joining g s (ran_on g s odd h) (distance_in g s.next))) →
    (flag ≡ false → stepped g s odd h ≡ true → flag_of g.begun ≡ true → flag_of s.joined ≡ false → (starts_epoch g.kind s.next && in_window g s) ≡ false → P (frame_dropped g s (ran_on g s odd h))) →
    P (taken_of g s flag odd h)
unfolding taken_of arrives by_window by_start
taken_by P g s flag odd h when_flagged when_counts when_dropped when_keeps when_outside when_joins when_waits =
    let run : Run = ran_on g s odd h in
    let d : ℕ = distance_in g s.next in
    let start : Bool = starts_epoch g.kind s.next in
    let window : Taken = cond (in_window g s) (keeps g s run d) (outside s) in
    let epoch : Taken = cond (start && in_window g s) (joining g s run d) (frame_dropped g s run) in
    let begun : Taken = cond (flag_of s.joined) window epoch in
    let arrived : Taken = cond (not (flag_of g.begun)) (frame_dropped g s run) begun in
    cond_by P flag (flagged g s) (cond (stepped g s odd h) arrived (counts_on g s run)) when_flagged
    (λ (f : flag ≡ false).
    cond_by P (stepped g s odd h) arrived (counts_on g s run)
    (λ (e : stepped g s odd h ≡ true).
    cond_by P (not (flag_of g.begun)) (frame_dropped g s run) begun (λ b. when_dropped f e (not-true (flag_of g.begun) b))
    (λ b.
    let b : flag_of g.begun ≡ true = not-false (flag_of g.begun) b in
    cond_by P (flag_of s.joined) window epoch
    (λ j. cond_by P (in_window g s) (keeps g s run d) (outside s) (when_keeps f e b j) (when_outside f e b j))
    (λ j.
    cond_by P (start && in_window g s) (joining g s run d) (frame_dropped g s run)
    (λ w. when_joins f e b j (and_left start (in_window g s) w) (and_right start (in_window g s) w))
    (when_waits f e b j))))
    (when_counts f))
