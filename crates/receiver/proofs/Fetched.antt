-- What the report of the oldest epoch leaves, by what the parts of the code leave.
use mathlib.Core.Path.{◌≡◌, sym, ◌∙◌}
use mathlib.Core.List.{List}
use Prim.Native.Nat.{ℕ}
use Rattle.judge.specs.declared.order.Order.{Order}
use Rattle.judge.specs.declared.seen.Seen.{Seen}
use Rattle.judge.specs.Cause.{cause_of, mark_of}
use Rattle.judge.specs.Order.{order_of}
use Rattle.judge.specs.Seen.{size_of}
use Rattle.judge.specs.Theorems.Cause.{mark_by_cause}
use Rattle.judge.specs.Verdict.{judge_of}
use Rattle.receiver.specs.declared.report.Report.{Report}
use Rattle.receiver.specs.Report.{output_by, output_of, report_by, epoch_report, reported_of, seen_all}
use Rattle.rows.specs.declared.group.Group.{Group}

module _ (g : Group) (n : ℕ) (s : List (List ℕ)) (store out : List ℕ) where
  pub given_is : (seen : List Seen) (cause mark : ℕ) (order : Order) (left : List ℕ) (rows : List (List ℕ)) (report : Report)
      → seen ≡ seen_all g s n → cause ≡ cause_of g.kind seen (size_of n) → mark ≡ mark_of g.kind cause → order ≡ order_of seen (size_of n) → left ≡ output_by g mark order store out
      → rows ≡ reported_of g store n s → report ≡ report_by g mark cause order
      → (report ≡ epoch_report g (seen_all g s n) n) × (rows ≡ reported_of g store n s) × (left ≡ output_of g (seen_all g s n) n store out)
  unfolding epoch_report output_of
  given_is seen cause mark order left rows report es ec em eo el er ep =
      let e : mark ≡ judge_of g.kind seen (size_of n) = em ∙ rw ec (sym (mark_by_cause g.kind seen (size_of n))) in
      rw (← es, ← e, ← ec, ← eo) (ep, er, el)
