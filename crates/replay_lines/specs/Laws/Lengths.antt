-- Frames and fetches keep the lengths of what is lent.
use Rattle.std.specs.Prelude.{◌≡◌, ℕ, ◌≤◌, Bool, true, false, cond, not, ◌&&◌, List, ◌++◌, length, take, drop, ◌==◌}
use Rattle.std.proofs.Math.Path.{refl}
use Rattle.std.proofs.Common.{◌∙◌, arith, length-append, length-drop, length-take-le}
use Rattle.ground.specs.Truth.{cond_by}
use Rattle.judge.specs.declared.seen.Seen.{Seen}
use Rattle.judge.specs.Order.{order_of}
use Rattle.judge.specs.Seen.{size_of}
use Rattle.judge.specs.Verdict.{HELD, judge_of}
use Rattle.packet.specs.Kinds.{frames}
use Rattle.phases.specs.Due.{brought}
use Rattle.phases.specs.Passing.{passed_of}
use Rattle.step.specs.Arrival.{flag_of, is_kept}
use Rattle.phases.specs.Laws.Lengths.{length_begin, length_passed, length_stop}
use Rattle.phases.specs.Settling.{gather_by, settled_of}
use Rattle.phases.specs.Sizes.{ports_in}
use Rattle.receiver.specs.Fetch.{FetchOutcome, due_in, fetch_of, lent_fits, out_if_due}
use Rattle.receiver.specs.Frame.{FrameOutcome, frame_of, port_rows, settled_by, store_by, taken_in}
use Rattle.receiver.specs.Laws.Frames.{length_frame}
use Rattle.receiver.specs.Laws.Fresh.{length_started}
use Rattle.receiver.specs.Laws.Lengths.{length_frames_into}
use Rattle.receiver.specs.Laws.Outcomes.{fetch_cases, frame_cases}
use Rattle.receiver.specs.Laws.Told.{length_told}
use Rattle.receiver.specs.Report.{frames_into, output_by, output_of, reported_of, seen_all}
use Rattle.receiver.specs.Starting.{empty_group, group_with, sized_fits, sized_rows, start_as_rows, start_right}
use Rattle.recording.specs.declared.pairs.Settings.{Settings}
use Rattle.replay_lines.specs.Turn.{hold_offs, restores, started_rows, store_in}
use Rattle.rows.specs.declared.group.Group.{Group}
use Rattle.rows.specs.Group.{group_at}
use Rattle.rows.specs.Laws.Port.{length_put_group}
use Rattle.step.specs.declared.arrival.Taken.{Taken}
use Rattle.store.specs.Laws.Stored.{length_stored}

either : {A : Type 0} (b : Bool) (x y : List A) (n : ℕ) → length x ≡ n → length y ≡ n → length (cond b x y) ≡ n
either true x y n h k = h
either false x y n h k = k

both_by : {A : Type 0} (R : A → A → Type 0) (b : Bool) (x y u v : A) → R x u → R y v → R (cond b x y) (cond b u v)
both_by R true x y u v h k = h
both_by R false x y u v h k = k

length_gather : (g : Group) (store : List ℕ) (n : ℕ) (s : List (List ℕ)) → length (gather_by g store n s) ≡ length s
unfolding gather_by
length_gather g store n s = either (flag_of g.begun && not (flag_of g.gathered) && brought g s n) (passed_of g store n s) s (length s) (length_passed g store n s) refl

length_settled : (n : ℕ) (store : List ℕ) (s : List (List ℕ)) → length (settled_of n store s) ≡ length s
unfolding settled_of
length_settled n store s = length_gather _ store n _ ∙ (length_begin _ n _ ∙ length_stop (group_at s) n s)

module _ (s : List (List ℕ)) (i : ℕ) (failed : Bool) (h : ℕ) (payload store : List ℕ) where
  taken : Taken
  taken = taken_in s i failed h

  pub length_frame_rows : length (frame_of s i failed h payload store).rows ≡ length s
  unfolding settled_by
  length_frame_rows =
      let p : length (port_rows (group_at s).kind s i (taken_in s i failed h) h) ≡ length s = length_frame (group_at s).kind s i (taken_in s i failed h) h in
      frame_cases s i failed h payload store (λ (o : FrameOutcome). length o.rows ≡ length s) (λ e. refl) (λ e f. refl)
      (λ e f. either (taken_in s i failed h).settles _ (port_rows (group_at s).kind s i (taken_in s i failed h) h) (length s) (length_settled _ _ (port_rows (group_at s).kind s i (taken_in s i failed h) h) ∙ p) p)

  pub length_frame_store : length (frame_of s i failed h payload store).store ≡ length store
  unfolding store_by
  length_frame_store =
      frame_cases s i failed h payload store (λ (o : FrameOutcome). length o.store ≡ length store) (λ e. refl) (λ e f. refl)
      (λ e f. either (is_kept (taken_in s i failed h)) _ store (length store) (length_stored store _ payload h) refl)

length_reported : (g : Group) (store : List ℕ) (n : ℕ) (s : List (List ℕ)) → length (reported_of g store n s) ≡ length s
unfolding reported_of
length_reported g store n s = length_told _ n _ ∙ length_passed g store n s

length_output : (g : Group) (seen : List Seen) (n : ℕ) (store out : List ℕ) → length (output_of g seen n store out) ≡ length out
unfolding output_of output_by
length_output g seen n store out =
    either (judge_of g.kind seen (size_of n) == HELD) out (frames_into g (order_of seen (size_of n)) store (frames g.kind) out) (length out) refl (length_frames_into g (order_of seen (size_of n)) store (frames g.kind) out)

module _ (s : List (List ℕ)) (store out report : List ℕ) where
  pub length_fetch_rows : length (fetch_of s store out report).rows ≡ length s
  length_fetch_rows =
      fetch_cases s store out report (λ (r : List (List ℕ)). length r ≡ length s) refl (λ e d. length_reported (group_at s) store (ports_in (group_at s)) s)

  pub length_fetch_out : length (fetch_of s store out report).out ≡ length out
  unfolding fetch_of out_if_due
  length_fetch_out =
      cond_by (λ (o : FetchOutcome). length o.out ≡ length out) (lent_fits s store out report) _ _
      (λ e. either (due_in (group_at s) (ports_in (group_at s)) s) _ out (length out) (length_output (group_at s) (seen_all (group_at s) s (ports_in (group_at s))) (ports_in (group_at s)) store out) refl)
      (λ e. refl)

  -- of the output a fetch looks at the length alone
  pub fetch_rows_alike : (other : List ℕ) → length other ≡ length out → (fetch_of s store other report).rows ≡ (fetch_of s store out report).rows
  unfolding fetch_of lent_fits
  fetch_rows_alike other e = rw e (both_by (λ (o p : FetchOutcome). o.rows ≡ p.rows) (lent_fits s store out report) _ _ _ _ refl refl)

  pub fetch_record_alike : (other : List ℕ) → length other ≡ length out → (fetch_of s store other report).report ≡ (fetch_of s store out report).report
  unfolding fetch_of lent_fits
  fetch_record_alike other e = rw e (both_by (λ (o p : FetchOutcome). o.report ≡ p.report) (lent_fits s store out report) _ _ _ _ refl refl)

pub length_started_rows : (g : Settings) (s : List (List ℕ)) → length (started_rows g s) ≡ length s
unfolding started_rows start_as_rows sized_rows
length_started_rows g s =
    either (start_right g.kind g.ports g.size g.window (hold_offs g) (restores g)) _ _ (length s)
    (either (sized_fits g.ports g.size g.window (store_in g) (hold_offs g) (restores g) (length s)) _ s (length s) (length_started g.kind g.ports (hold_offs g) (restores g) s (group_with g.kind g.ports g.size g.window)) refl)
    (length_put_group s (empty_group g.kind))

-- a part that keeps its length, before what is behind it
pub length_part : {A : Type 0} (n : ℕ) (whole part : List A) → n ≤ length whole → length part ≡ length (take n whole) → length (part ++ drop n whole) ≡ length whole
length_part n whole part h e =
    let a = length-append part (drop n whole) in
    let b = length-take-le n whole h in
    let c = length-drop n whole in
    omega arith
