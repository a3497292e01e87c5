-- R-7: after a frame, stopping, beginning and gathering may be tested always or only where taken_of says so: on what any calls leave it is the same.
use Rattle.std.specs.Prelude.{◌≡◌, ◌≢◌, Bool, List, length}
use Rattle.std.proofs.Math.Path.{refl, sym}
use Rattle.std.proofs.Common.{ap, ◌∙◌, arith}
use Rattle.std.proofs.Math.Logic.{⊎_elim}
use Rattle.std.proofs.Math.Bool.{true, false, cond, not, true≢false}
use Prim.Native.Nat.{ℕ, ◌≤◌, ◌<◌}
use Rattle.invariant.specs.Kept.Group.{Kept, PortIn}
use Rattle.invariant.specs.Proofs.Kept.Quiet.{Quiet, taken_quiet}
use Rattle.invariant.specs.Proofs.Kept.WithinCall.{windowed}
use Rattle.ground.specs.Counting.Laws.Tests.{every_all, every_at, every_fails}
use Rattle.ground.specs.Counting.Words.{every}
use Rattle.ground.specs.Truth.{clash, eq_or_ne, fails}
use Rattle.phases.specs.Due.{brought, owes_nothing, silent}
use Rattle.phases.specs.Settling.{Settled, settled_of}
use Rattle.phases.specs.Theorems.Settled.{heard_port, settled_stays}
use Rattle.receiver.specs.Frame.{marks_by, odd_in, port_rows, settled_by, taken_in}
use Rattle.receiver.specs.Laws.Frames.{frame_group, frame_marks, frame_marks_other, frame_step, frame_step_other}
use Rattle.rows.specs.declared.group.Group.{Group}
use Rattle.rows.specs.Group.{group_at}
use Rattle.rows.specs.Laws.Port.{port_marks, port_step}
use Rattle.rows.specs.Packets.{marks_at}
use Rattle.rows.specs.Port.{port_at}
use Rattle.rows.specs.Rows.{rows_for}
use Rattle.rows.specs.Step.{step_at}
use Rattle.step.specs.Arrival.{flag_of, readable}
use Rattle.step.specs.declared.arrival.Taken.{Taken}

module _ (s : List (List ℕ)) (k : Kept s) (i : ℕ) (failed : Bool) (h : ℕ) (b : i < (group_at s).count) where
  abbrev g : Group
  g = group_at s

  abbrev n : ℕ
  n = (group_at s).count

  abbrev taken : Taken
  taken = taken_in s i failed h

  abbrev after : List (List ℕ)
  after = port_rows g.kind s i taken h

  enough : rows_for n ≤ length s
  enough = let e = k.lasting.rows in omega arith

  step_now : step_at after i ≡ taken.step
  step_now = frame_step g.kind s i taken h n b enough

  marks_now : marks_at after i ≡ marks_by g.kind (marks_at s i) taken
  marks_now = frame_marks g.kind s i taken h n b enough

  step_other : (j : ℕ) → j ≢ i → step_at after j ≡ step_at s j
  step_other = frame_step_other g.kind s i taken h

  marks_other : (j : ℕ) → j ≢ i → marks_at after j ≡ marks_at s j
  marks_other = frame_marks_other g.kind s i taken h

  module _ (quiet : taken.settles ≡ false) where
    q : Quiet g (step_at s i) (marks_at s i) taken
    q =
        let o : PortIn g (port_at s i) = k.lasting.ports i b in
        taken_quiet g (step_at s i) (marks_at s i) failed (odd_in s i h) h (windowed g k.lasting.group) (rw (port_step s i, port_marks s i) at o.kept) quiet

    still_heard : silent g s n ≡ false → silent g after n ≡ false
    unfolding silent
    still_heard e =
        let o = heard_port g s n e in
        let j : ℕ = o.at in
        let r : readable g (step_at after j) ≡ true =
        ⊎_elim (λ (z : o.at ≡ i). rw (z, step_now) (q.heard (rw (← z) o.holds))) (λ (d : o.at ≢ i). rw (step_other o.at d) o.holds) (eq_or_ne o.at i) in
        every_fails n (λ m. not (readable g (step_at after m))) j o.below (ap not r)

    still_waits_lem : flag_of g.gathered ≡ false → brought g s n ≡ false → brought g after n ≡ false
    unfolding brought
    still_waits_lem f e =
        fails (brought g after n) (λ (t : brought g after n ≡ true).
        true≢false (sym (every_all n (λ j. owes_nothing g (step_at s j) (marks_at s j)) (λ j c. before t j c)) ∙ e))
      where
        before : every n (λ j. owes_nothing g (step_at after j) (marks_at after j)) ≡ true → (j : ℕ) → j < n → owes_nothing g (step_at s j) (marks_at s j) ≡ true
        before t j c =
            let l : owes_nothing g (step_at after j) (marks_at after j) ≡ true = every_at n (λ m. owes_nothing g (step_at after m) (marks_at after m)) t j c in
            ⊎_elim (λ (z : j ≡ i). rw z (q.owes_nothing f (rw (z, step_now, marks_now) at l))) (λ (d : j ≢ i). rw (step_other j d, marks_other j d) at l) (eq_or_ne j i)

    nothing_follows : Settled n after
    nothing_follows =
        let same : group_at after ≡ g = frame_group g.kind s i taken h in
        record {
          heard = λ e. rw same (still_heard (k.settled.heard q.begun));
          gathers = λ e f. let f : flag_of g.gathered ≡ false = rw same at f in rw same (still_waits_lem f (k.settled.gathers q.begun f));
          waits = λ e. clash (flag_of g.begun) q.begun (rw same at e);
        }

  -- whatever settles says
  pub settles_always : (store : List ℕ) → settled_by taken.settles n store after ≡ settled_of n store after
  unfolding settled_by
  settles_always store = go taken.settles refl
    where
      go : (t : Bool) → taken.settles ≡ t → cond t (settled_of n store after) after ≡ settled_of n store after
      go true e = refl
      go false e = sym (settled_stays n store after (nothing_follows e))
