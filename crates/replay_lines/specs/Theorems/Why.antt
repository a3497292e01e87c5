-- Why a report is held or doubtful, as its line says it (2026-05): by the packets of the ports that this very report saw.
use Rattle.std.specs.Prelude.{◌≡◌, ℕ, Bool, true, ◌&&◌, List, length, take, replicate, ◌==◌, nat_eq, nat_le, nat_lt, slice_index}
use Rattle.std.proofs.Math.Path.{refl}
use Rattle.std.proofs.Common.{sym, ap, ◌∙◌, not-suc-le-zero, ltb-true}
use Rattle.ground.specs.Truth.{and_left, cond_by}
use Rattle.judge.specs.Cause.{blamed_by, blamed_of, cause_of, mark_of}
use Rattle.judge.specs.Seen.{size_of}
use Rattle.judge.specs.Theorems.Cause.{mark_by_cause}
use Rattle.judge.specs.declared.seen.Seen.{Seen}
use Rattle.phases.specs.Sizes.{ports_in, store_for}
use Rattle.receiver.specs.declared.report.Report.{Report}
use Rattle.receiver.specs.Cause.{cause_fit, cause_in, cause_out}
use Rattle.receiver.specs.Fetch.{FetchOutcome, due_in, fetch_of, lent_fits, record_of, report_if_due}
use Rattle.receiver.specs.Lengths.{fetch_fits, output_for, rows_fit}
use Rattle.receiver.specs.Report.{report_by, epoch_report, seen_all}
use Rattle.replay_lines.specs.declared.replay.Replay.{Replay}
use Rattle.replay_lines.specs.Replay.{store_of}
use Rattle.replay_lines.specs.Turn.{blamed_in, fetch_record_by, is_due}
use Rattle.rows.specs.declared.group.Group.{Group}
use Rattle.rows.specs.Group.{group_at}
use Rattle.rows.specs.Rows.{rows_for}

-- a receiver's rows, with what is lent for a fetch
module _ (s : List (List ℕ)) (store out report : List ℕ) where
  abbrev g : Group
  g = group_at s

  abbrev n : ℕ
  n = ports_in g

  abbrev ports : List Seen
  ports = seen_all g s n

  rows_fit_lem : lent_fits s store out report ≡ true → rows_fit n (length s) ≡ true
  unfolding lent_fits fetch_fits
  rows_fit_lem e =
      let a : Bool = rows_fit n (length s) in
      let b : Bool = nat_eq (length store) (store_for g n) in
      let c : Bool = nat_le (output_for g n) (length out) in
      and_left a b (and_left (a && b) c (and_left (a && b && c) (length report == 8) e))

  own_cause : lent_fits s store out report ≡ true → due_in g n s ≡ true → slice_index (fetch_of s store out report).report 3 ≡ cause_of g.kind ports (size_of n)
  unfolding fetch_of report_if_due record_of epoch_report report_by
  own_cause f d = rw (f, d) refl

  own_mark : lent_fits s store out report ≡ true → due_in g n s ≡ true → slice_index (fetch_of s store out report).report 0 ≡ mark_of g.kind (cause_of g.kind ports (size_of n))
  unfolding fetch_of report_if_due record_of epoch_report report_by
  own_mark f d = rw (f, d) (mark_by_cause g.kind ports (size_of n))

  own_port : lent_fits s store out report ≡ true → blamed_in s ≡ blamed_by ports (size_of n) (cause_of g.kind ports (size_of n))
  unfolding blamed_in cause_out cause_fit cause_in blamed_of
  own_port f = rw (rows_fit_lem f) refl

-- a record that says a mark is a report's: the record lent was zeros
given : (s : List (List ℕ)) (store out : List ℕ) → nat_lt 0 (slice_index (fetch_of s store out (replicate 8 0)).report 0) ≡ true
    → (lent_fits s store out (replicate 8 0) ≡ true) × (due_in (group_at s) (ports_in (group_at s)) s ≡ true)
unfolding fetch_of report_if_due record_of
given s store out =
    let fit : Bool = lent_fits s store out (replicate 8 0) in
    let due : Bool = due_in (group_at s) (ports_in (group_at s)) s in
    cond_by (λ (o : FetchOutcome). nat_lt 0 (slice_index o.report 0) ≡ true → (fit ≡ true) × (due ≡ true)) fit _ _
    (λ f. cond_by (λ (r : Report). nat_lt 0 (slice_index (record_of r) 0) ≡ true → (fit ≡ true) × (due ≡ true)) due _ _ (λ d t. (f, d)) (λ d t. absurd (not-suc-le-zero (ltb-true 0 0 t))))
    (λ f t. absurd (not-suc-le-zero (ltb-true 0 0 t)))

-- The cause that a report's line names is the first clause that held of the ports seen; by it the report is held, doubtful or sure; and the port is the lowest to which that clause applies.
pub why_named : (r : Replay) (rows : List (List ℕ)) (store out : List ℕ) → is_due r rows store out ≡ true
    → let own : List (List ℕ) = take (rows_for r.ports) rows in
    let kind : ℕ = (group_at own).kind in
    let seen : List Seen = seen_all (group_at own) own (ports_in (group_at own)) in
    let count : ℕ = size_of (ports_in (group_at own)) in
    let rec : List ℕ = fetch_record_by r rows store out in
    (slice_index rec 3 ≡ cause_of kind seen count) × (slice_index rec 0 ≡ mark_of kind (slice_index rec 3)) × (blamed_in own ≡ blamed_by seen count (slice_index rec 3))
unfolding fetch_record_by
why_named r rows store out h =
    let own = take (rows_for r.ports) rows in
    let lent = take (store_of r.ports r.size r.window) store in
    let e = given own lent out h in
    let none : List ℕ = replicate 8 0 in
    let c = own_cause own lent out none e.0 e.1 in
    (c, own_mark own lent out none e.0 e.1 ∙ ap (mark_of (group_at own).kind) (sym c), own_port own lent out none e.0 ∙ ap (blamed_by (seen_all (group_at own) own (ports_in (group_at own))) (size_of (ports_in (group_at own)))) (sym c))
