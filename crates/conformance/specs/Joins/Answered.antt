-- What 10 and 12 mean on any state: 'port recorded unreadable, its step lost', and 'port not in step after this frame', whatever follows from the frame for all ports.
use Rattle.std.specs.Prelude.{◌≡◌, Bool, true, ◌&&◌, ◌||◌, ℕ, ◌*◌, ◌≤◌, ◌<◌, ◌==◌}
use Rattle.std.proofs.Math.Path.{refl, ap}
use Rattle.std.proofs.Common.{◌∙◌, arith}
use Rattle.std.proofs.Math.Bool.{false, not}
use mathlib.Core.List.{List}
use Rattle.std.proofs.Math.ListN.{length}
use Rattle.std.proofs.lemmas.Bool.{lt-leb}
use Rattle.ground.specs.Truth.{cond_by}
use Rattle.packet.specs.Kinds.{frames}
use Rattle.packet.specs.Theorems.Tags.{frames_some}
use Rattle.phases.specs.Beginning.{begins}
use Rattle.phases.specs.Due.{brought, silent}
use Rattle.phases.specs.Laws.Cleared.{begun_step_at, stopped_port}
use Rattle.phases.specs.Laws.Lengths.{length_begin, length_stop}
use Rattle.phases.specs.Laws.Passed.{passed_step_at}
use Rattle.phases.specs.Laws.Sizes.{settled_sizes}
use Rattle.phases.specs.Passing.{passed_of, passed_step}
use Rattle.phases.specs.Settling.{begin_by, begun_of, cleared_step, gather_by, settled_of, stop_by, stopped_of}
use Rattle.phases.specs.Sizes.{ports_in}
use Rattle.receiver.specs.Frame.{frame_of, frame_refusal, odd_in, port_rows, settled_by, store_by, taken_frame, taken_in}
use Rattle.receiver.specs.Laws.Answers.{Fitting, unrefused}
use Rattle.receiver.specs.Laws.Frames.{frame_group, frame_step, length_frame}
use Rattle.receiver.specs.Laws.Outcomes.{answered_above}
use Rattle.rows.specs.declared.group.Group.{Group}
use Rattle.rows.specs.declared.step.Step.{Step}
use Rattle.rows.specs.Group.{group_at}
use Rattle.rows.specs.Port.{Port, port_at}
use Rattle.rows.specs.Rows.{rows_for}
use Rattle.rows.specs.Step.{step_at}
use Rattle.step.specs.declared.arrival.Taken.{Taken}
use Rattle.step.specs.Arrival.{counts_on, flag_of, flagged, frame_dropped, in_step, joining, keeps, outside, readable, taken_of}
use Rattle.step.specs.Laws.Arrival.{taken_by}
use Rattle.step.specs.Run.{in_step_at}

-- the count and the flag of a port are as they were
record Counted (p q : Step) : Type 0 where
  count : p.count ≡ q.count
  failed : p.failed ≡ q.failed

as_was : (p : Step) → Counted p p
as_was p = record { count = refl; failed = refl }

counted_then : (p q r : Step) → Counted p q → Counted q r → Counted p r
counted_then p q r a b = record { count = a.count ∙ b.count; failed = a.failed ∙ b.failed }

-- stopping, beginning and gathering leave both
module _ (n i : ℕ) (b : i < n) where
  stop_counted : (s : List (List ℕ)) → rows_for n ≤ length s → Counted (step_at (stop_by (group_at s) n s) i) (step_at s i)
  unfolding stop_by port_at cleared_step
  stop_counted s l =
      cond_by (λ t. Counted (step_at t i) (step_at s i)) (flag_of (group_at s).begun && silent (group_at s) s n) (stopped_of (group_at s) n s) s
      (λ e. rw (ap (λ (p : Port). p.step) (stopped_port (group_at s) n s i b l)) (record { count = refl; failed = refl }))
      (λ e. as_was (step_at s i))

  begin_counted : (s : List (List ℕ)) → rows_for n ≤ length s → Counted (step_at (begin_by (group_at s) n s) i) (step_at s i)
  unfolding begin_by cleared_step
  begin_counted s l =
      cond_by (λ t. Counted (step_at t i) (step_at s i)) (not (flag_of (group_at s).begun) && begins (group_at s) s n) (begun_of (group_at s) n s) s
      (λ e. rw (begun_step_at (group_at s) n s i b l) (record { count = refl; failed = refl }))
      (λ e. as_was (step_at s i))

  gather_counted : (store : List ℕ) (s : List (List ℕ)) → rows_for n ≤ length s → Counted (step_at (gather_by (group_at s) store n s) i) (step_at s i)
  unfolding gather_by passed_step
  gather_counted store s l =
      cond_by (λ t. Counted (step_at t i) (step_at s i)) (flag_of (group_at s).begun && not (flag_of (group_at s).gathered) && brought (group_at s) s n) (passed_of (group_at s) store n s) s
      (λ e. rw (passed_step_at (group_at s) store n s i b l) (record { count = refl; failed = refl }))
      (λ e. as_was (step_at s i))

  settled_counted : (store : List ℕ) (s : List (List ℕ)) → rows_for n ≤ length s → Counted (step_at (settled_of n store s) i) (step_at s i)
  unfolding settled_of
  settled_counted store s l =
      let a = stop_by (group_at s) n s in
      let la : length a ≡ length s = length_stop (group_at s) n s in
      let c = begin_by (group_at a) n a in
      let lc : length c ≡ length s = length_begin (group_at a) n a ∙ la in
      counted_then (step_at (gather_by (group_at c) store n c) i) (step_at c i) (step_at s i) (gather_counted store c (rw lc l))
      (counted_then (step_at c i) (step_at a i) (step_at s i) (begin_counted a (rw la l)) (stop_counted s l))

-- what the two answers say of the step as it is taken
record Says (g : Group) (t : Taken) : Type 0 where
  ten : t.answer ≡ 10 → (in_step_at g.kind t.step.count ≡ false) × (t.step.failed ≡ 1)
  twelve : t.answer ≡ 12 → (in_step_at g.kind t.step.count ≡ false) × (t.step.failed ≡ 0)

none_in_step : (kind : ℕ) → in_step_at kind 0 ≡ false
unfolding in_step_at
none_in_step kind = let some = frames_some kind in lt-leb (frames kind * 2) 0 (omega arith)

says : (g : Group) (s : Step) (failed odd : Bool) (h : ℕ) → Says g (taken_of g s failed odd h)
unfolding flagged counts_on frame_dropped keeps outside joining
says g s failed odd h =
    taken_by (Says g) g s failed odd h
    (λ f. record { ten = λ e. (none_in_step g.kind, refl); twelve = λ e. absurd (omega arith) })
    (λ f e. record { ten = λ a. absurd (omega arith); twelve = λ a. (e, refl) })
    (λ f e b. record { ten = λ a. absurd (omega arith); twelve = λ a. absurd (omega arith) })
    (λ f e b j w. record { ten = λ a. absurd (omega arith); twelve = λ a. absurd (omega arith) })
    (λ f e b j w. record { ten = λ a. absurd (omega arith); twelve = λ a. absurd (omega arith) })
    (λ f e b j t w. record { ten = λ a. absurd (omega arith); twelve = λ a. absurd (omega arith) })
    (λ f e b j w. record { ten = λ a. absurd (omega arith); twelve = λ a. absurd (omega arith) })

-- a port that is not in step, and hence not readable; its flag
pub record OutOfStep (s : List (List ℕ)) (i flag : ℕ) : Type 0 where
  pub not_in_step : in_step (group_at s) (step_at s i) ≡ false
  pub unreadable : readable (group_at s) (step_at s i) ≡ false
  pub flag_is : (step_at s i).failed ≡ flag

unread : (a c d : Bool) → c ≡ false → (a && c && d) ≡ false
unread true c d e = rw e
unread false c d e = refl

module _ (s : List (List ℕ)) (i : ℕ) (failed : Bool) (h : ℕ) (payload store : List ℕ) where
  abbrev g : Group
  g = group_at s

  abbrev n : ℕ
  n = ports_in (group_at s)

  abbrev t : Taken
  t = taken_in s i failed h

  -- the rows after such a frame: what follows for all ports on the port's own rows
  rows_are : (a : ℕ) → (a == 11) ≡ false → frame_refusal s i (length payload) (length store) ≡ 0 → t.answer ≡ a
      → (frame_of s i failed h payload store).rows ≡ settled_by t.settles n (store_by g i t h payload store) (port_rows g.kind s i t h)
  unfolding frame_of taken_frame
  rows_are a d r e = rw (r, e, d) refl

  -- what is said of the step as it is taken holds of the rows, if count, flag and kind are as then
  finish : (flag : ℕ) (r : List (List ℕ)) → Counted (step_at r i) t.step → (group_at r).kind ≡ g.kind → (in_step_at g.kind t.step.count ≡ false) × (t.step.failed ≡ flag)
      → OutOfStep r i flag
  unfolding in_step readable
  finish flag r c k w =
      let o : in_step_at (group_at r).kind (step_at r i).count ≡ false = rw (k, c.count) w.0 in
      record {
        not_in_step = o;
        unreadable = unread (flag_of (group_at r).begun) (in_step_at (group_at r).kind (step_at r i).count) (flag_of (step_at r i).joined || flag_of (step_at r i).ever_since) o;
        flag_is = c.failed ∙ w.1;
      }

  settle : (flag : ℕ) (b : Bool) (store : List ℕ) → i < ports_in (group_at s) → rows_for (ports_in (group_at s)) ≤ length s
      → (in_step_at (group_at s).kind (taken_in s i failed h).step.count ≡ false) × ((taken_in s i failed h).step.failed ≡ flag)
      → OutOfStep (settled_by b (ports_in (group_at s)) store (port_rows (group_at s).kind s i (taken_in s i failed h) h)) i flag
  unfolding settled_by
  settle flag b after p l w =
      let a : List (List ℕ) = port_rows (group_at s).kind s i (taken_in s i failed h) h in
      let step : step_at a i ≡ (taken_in s i failed h).step = frame_step (group_at s).kind s i (taken_in s i failed h) h (ports_in (group_at s)) p l in
      let group : group_at a ≡ group_at s = frame_group (group_at s).kind s i (taken_in s i failed h) h in
      let long : length a ≡ length s = length_frame (group_at s).kind s i (taken_in s i failed h) h in
      let own : Counted (step_at a i) (taken_in s i failed h).step = record { count = ap (λ (q : Step). q.count) step; failed = ap (λ (q : Step). q.failed) step } in
      let kind : (group_at a).kind ≡ (group_at s).kind = ap (λ (x : Group). x.kind) group in
      cond_by (λ r. OutOfStep r i flag) b (settled_of (ports_in (group_at s)) after a) a
      (λ e.
      finish flag (settled_of (ports_in (group_at s)) after a)
      (counted_then (step_at (settled_of (ports_in (group_at s)) after a) i) (step_at a i) (taken_in s i failed h).step (settled_counted (ports_in (group_at s)) i p after a (rw long l)) own)
      ((settled_sizes (ports_in (group_at s)) after a (rw long (omega arith))).kind ∙ kind) w)
      (λ e. finish flag a own kind w)

  out : (a flag : ℕ) → 9 < a → (a == 11) ≡ false → ((taken_in s i failed h).answer ≡ a → (in_step_at (group_at s).kind (taken_in s i failed h).step.count ≡ false) × ((taken_in s i failed h).step.failed ≡ flag))
      → (frame_of s i failed h payload store).answer ≡ a → OutOfStep (frame_of s i failed h payload store).rows i flag
  out a flag big d tells e =
      let q = answered_above s i failed h payload store a big e in
      let f : Fitting (group_at s) (ports_in (group_at s)) i (length s) (length payload) (length store) =
      unrefused (group_at s) (ports_in (group_at s)) i (length s) (length payload) (length store) q.0 in
      let l : rows_for (ports_in (group_at s)) ≤ length s = (let w = f.whole in omega arith) in
      rw (rows_are a d q.0 q.1)
      (settle flag (taken_in s i failed h).settles (store_by (group_at s) i (taken_in s i failed h) h payload store) f.port l (tells q.1))

  -- 10: the port is not in step, not readable and flagged
  pub after_10 : (frame_of s i failed h payload store).answer ≡ 10 → OutOfStep (frame_of s i failed h payload store).rows i 1
  after_10 e = out 10 1 (omega arith) refl (says (group_at s) (step_at s i) failed (odd_in s i h) h).ten e

  -- 12: the port is not in step, not readable and not flagged
  pub after_12 : (frame_of s i failed h payload store).answer ≡ 12 → OutOfStep (frame_of s i failed h payload store).rows i 0
  after_12 e = out 12 0 (omega arith) refl (says (group_at s) (step_at s i) failed (odd_in s i h) h).twelve e
