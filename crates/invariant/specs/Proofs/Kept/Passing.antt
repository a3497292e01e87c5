-- A port as the window passes an epoch that is due.
use Rattle.std.specs.Prelude.{◌≡◌, ◌≢◌, false, ◌&&◌, ◌||◌, List, ℕ, ◌+◌, ◌≤◌}
use Rattle.std.proofs.Math.Path.{refl}
use Rattle.std.proofs.Common.{sym, ◌∙◌, true≢false, arith}
use Rattle.std.proofs.Math.Logic.{⊎_elim}
use Rattle.std.proofs.Math.Bool.{true}
use Rattle.std.proofs.lemmas.Bool.{false≢true}
use Rattle.invariant.specs.Kept.Port.{Joined, PortKept, offset}
use Rattle.invariant.specs.Proofs.Laws.Flags.{flag_le, flag_on, true_or_false}
use Rattle.invariant.specs.Proofs.Laws.Window.{distance_passed}
use Rattle.ground.specs.Truth.{and_left, and_right, clash, eq_or_ne, or_cases}
use Rattle.packet.specs.Kinds.{frames}
use Rattle.packet.specs.Laws.Epochs.{end_before, end_nearer, first_ended, later_nearer, less_later, one_ahead}
use Rattle.phases.specs.Due.{owes_nothing}
use Rattle.phases.specs.Passing.{passed_group, passed_step}
use Rattle.rows.specs.declared.group.Group.{Group}
use Rattle.rows.specs.declared.step.Step.{Step}
use Rattle.step.specs.Arrival.{distance_in, flag_of, in_step, readable}
use Rattle.store.specs.Laws.Marks.{first_mark_lem, mark_passed, sixteen_passed}
use Rattle.store.specs.Marks.{first_mark, passed_marks}

module _ (g : Group) (s : Step) (marks : List ℕ) (k : PortKept g s marks) (begun : flag_of g.begun ≡ true) (due : owes_nothing g s marks ≡ true) where
  -- a port that has joined, or waits to, is readable
  is_readable : (flag_of s.joined || flag_of s.ever_since) ≡ true → readable g s ≡ true
  unfolding readable
  is_readable e =
      let on : in_step g s ≡ true = ⊎_elim (λ (j : flag_of s.joined ≡ true). k.joined_step j) (λ (j : flag_of s.ever_since ≡ true). k.since_step j) (or_cases (flag_of s.joined) (flag_of s.ever_since) e) in
      rw (begun, on, e) refl

  -- so it has brought the epoch, or joined at a later one
  has_brought : (flag_of s.joined || flag_of s.ever_since) ≡ true → (first_mark marks || flag_of s.joined && flag_of s.joined_at) ≡ true
  unfolding owes_nothing
  has_brought e = rw (is_readable e) at due

  -- a joined port is an epoch ahead
  pub ahead : flag_of s.joined ≡ true → frames g.kind ≤ offset g s
  ahead j =
      let o : Joined g s marks = k.goes j in
      let later : s.joined_at ≢ 0 → frames g.kind ≤ offset g s = λ n. one_ahead g.kind s.joined_at (offset g s) n (o.passed n) in
      ⊎_elim
      (λ (m : first_mark marks ≡ true).
      ⊎_elim (λ (z : s.joined_at ≡ 0). first_ended g.kind (offset g s) (sym (o.marked 0 (omega arith)) ∙ sym (first_mark_lem marks) ∙ m)) later (eq_or_ne s.joined_at 0))
      (λ (m : (flag_of s.joined && flag_of s.joined_at) ≡ true). later (flag_on s.joined_at (and_right (flag_of s.joined) (flag_of s.joined_at) m)))
      (or_cases (first_mark marks) (flag_of s.joined && flag_of s.joined_at) (has_brought (rw j)))

  -- and one that waits to join lets no epoch pass
  has_joined : flag_of s.ever_since ≡ true → flag_of s.joined ≡ true
  has_joined e =
      ⊎_elim (λ (j : flag_of s.joined ≡ true). j)
      (λ (j : flag_of s.joined ≡ false).
      let o = k.waits e j in
      let brought : (flag_of s.joined || flag_of s.ever_since) ≡ true = rw (j, e) in
      absurd (⊎_elim (λ (m : first_mark marks ≡ true). false≢true (sym (o.empty 0) ∙ sym (first_mark_lem marks) ∙ m))
      (λ (m : (flag_of s.joined && flag_of s.joined_at) ≡ true). true≢false (sym (and_left (flag_of s.joined) (flag_of s.joined_at) m) ∙ j))
      (or_cases (first_mark marks) (flag_of s.joined && flag_of s.joined_at) (has_brought brought))))
      (true_or_false (flag_of s.joined))

  -- A port of which an epoch passes: its run and flags stay, its marks move up by one, and its next frame lies an epoch nearer to the oldest (`near`), by which what was marked up to there is so again.
  pub passed_kept : PortKept (passed_group g) (passed_step s (first_mark marks)) (passed_marks marks)
  unfolding passed_group passed_step in_step
  passed_kept =
      record {
        row = sixteen_passed marks k.row;
        run = k.run;
        heard = k.heard;
        failed = k.failed;
        joined = k.joined;
        ever_since = k.ever_since;
        whole = flag_le (first_mark marks);
        joined_step = k.joined_step;
        since_step = k.since_step;
        failed_none = k.failed_none;
        failed_had = k.failed_had;
        count_had = k.count_had;
        idle = λ b. clash (flag_of g.begun) begun b;
        goes = joined;
        inside = λ i m. end_before g.kind i g.window (k.inside (i + 1) (sym (mark_passed marks k.row i) ∙ m));
        at_once = λ j. let z = k.at_once j in omega arith;
        waits = λ e j. clash (flag_of s.joined) (has_joined e) j;
        early = λ e. let z = k.early e in omega arith;
      }
    where
      joined : flag_of s.joined ≡ true → Joined (passed_group g) (passed_step s (first_mark marks)) (passed_marks marks)
      joined j =
          let o : Joined g s marks = k.goes j in
          let near : distance_in (passed_group g) s.next + frames g.kind ≡ offset g s = distance_passed g (passed_group g) s.next refl refl (ahead j) in
          record {
            reach = let r = o.reach in omega arith;
            within = less_later g.kind s.joined_at g.window o.within;
            passed = λ n.
                later_nearer g.kind s.joined_at (offset g s) (distance_in (passed_group g) s.next) n
                (o.passed (λ (z : s.joined_at ≡ 0). n (let q = z in omega arith))) near;
            marked = λ i l.
                mark_passed marks k.row i
                ∙ o.marked (i + 1) (omega arith)
                ∙ end_nearer g.kind i (offset g s) (distance_in (passed_group g) s.next) near;
          }
