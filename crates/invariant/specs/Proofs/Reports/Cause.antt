-- The cause in a report's record: by the ports that the report saw. On every state.
use Rattle.std.specs.Prelude.{◌≡◌, true, false, ◌&&◌, List, ℕ, get_or, length}
use Rattle.std.proofs.Math.Path.{refl, sym}
use Rattle.std.proofs.Common.{ap, ◌∙◌}
use Rattle.std.proofs.Math.Bool.{Bool}
use Rattle.std.proofs.Math.Dec.{eqb, leb}
use Rattle.ground.specs.Truth.{and_left}
use Rattle.invariant.specs.Proofs.Sizes.{ports_at_most_64}
use Rattle.judge.specs.Cause.{cause_of, mark_of}
use Rattle.judge.specs.Theorems.Cause.{mark_by_cause}
use Rattle.judge.specs.Verdict.{judge_of}
use Rattle.phases.specs.Sizes.{ports_in, store_for}
use Rattle.receiver.specs.Cause.{cause_fit, cause_in, cause_out}
use Rattle.receiver.specs.Fetch.{due_in, fetch_of, lent_fits, record_of, report_if_due}
use Rattle.receiver.specs.Laws.Sizes.{size_is}
use Rattle.receiver.specs.Lengths.{fetch_fits, output_for, rows_fit}
use Rattle.receiver.specs.Report.{report_by, epoch_report, seen_all}
use Rattle.rows.specs.Group.{group_at}
use Rattle.invariant.specs.Reports.{Given}

module _ (s : List (List ℕ)) (store out report : List ℕ) where
  pub report_cause : Given s store out report
      → get_or (fetch_of s store out report).report 3 0 ≡ cause_of (group_at s).kind (seen_all (group_at s) s (ports_in (group_at s))) (ports_in (group_at s))
  unfolding fetch_of report_if_due record_of epoch_report report_by
  report_cause o = rw (o.fitting, o.due, size_is (ports_in (group_at s)) (ports_at_most_64 (group_at s))) refl

  report_mark : Given s store out report
      → get_or (fetch_of s store out report).report 0 0 ≡ judge_of (group_at s).kind (seen_all (group_at s) s (ports_in (group_at s))) (ports_in (group_at s))
  unfolding fetch_of report_if_due record_of epoch_report report_by
  report_mark o = rw (o.fitting, o.due, size_is (ports_in (group_at s)) (ports_at_most_64 (group_at s))) refl

  pub mark_cause : Given s store out report → get_or (fetch_of s store out report).report 0 0 ≡ mark_of (group_at s).kind (get_or (fetch_of s store out report).report 3 0)
  mark_cause o =
      report_mark o
      ∙ mark_by_cause (group_at s).kind (seen_all (group_at s) s (ports_in (group_at s))) (ports_in (group_at s))
      ∙ ap (mark_of (group_at s).kind) (sym (report_cause o))

  pub none_cause : lent_fits s store out report ≡ true → due_in (group_at s) (ports_in (group_at s)) s ≡ false → get_or (fetch_of s store out report).report 3 0 ≡ 0
  unfolding fetch_of report_if_due record_of
  none_cause f d = rw (f, d) refl

  rows_fit_lem : lent_fits s store out report ≡ true → rows_fit (ports_in (group_at s)) (length s) ≡ true
  unfolding lent_fits fetch_fits
  rows_fit_lem e =
      let g = group_at s in
      let n = ports_in (group_at s) in
      let a : Bool = rows_fit n (length s) in
      let b : Bool = eqb (length store) (store_for g n) in
      let c : Bool = leb (output_for g n) (length out) in
      and_left a b (and_left (a && b) c (and_left (a && b && c) (eqb (length report) 8) e))

  -- what is read before it
  pub cause_read : Given s store out report → (lent : List ℕ) → length lent ≡ 2 → get_or (cause_out s lent) 0 0 ≡ get_or (fetch_of s store out report).report 3 0
  unfolding cause_out cause_in cause_fit
  cause_read o lent l =
      rw (rows_fit_lem o.fitting, l)
      (ap (cause_of (group_at s).kind (seen_all (group_at s) s (ports_in (group_at s)))) (size_is (ports_in (group_at s)) (ports_at_most_64 (group_at s))) ∙ sym (report_cause o))
