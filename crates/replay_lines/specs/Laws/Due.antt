-- Where no report is due a fetch gives none and changes nothing.
use Rattle.std.specs.Prelude.{◌≡◌, ℕ, Bool, false, List, ◌++◌, take, drop, replicate, nat_lt, slice_index, slice_index_or, refl}
use Rattle.std.proofs.Math.Path.{ap}
use Rattle.std.proofs.Common.{◌∙◌, sym, true≢false}
use Rattle.ground.specs.Truth.{cond_by}
use Rattle.std.proofs.Math.ListN.{take-append-drop}
use Rattle.phases.specs.Sizes.{ports_in}
use Rattle.receiver.specs.Fetch.{FetchOutcome, due_in, fetch_of, lent_fits, out_if_due, record_of, report_if_due}
use Rattle.receiver.specs.Laws.Outcomes.{fetch_cases}
use Rattle.replay_lines.specs.declared.replay.Replay.{Replay}
use Rattle.replay_lines.specs.Replay.{store_of}
use Rattle.replay_lines.specs.Turn.{fetch_out_by, fetch_record_by, fetch_rows_by, is_due}
use Rattle.rows.specs.declared.group.Group.{Group}
use Rattle.rows.specs.Group.{group_at}
use Rattle.rows.specs.Rows.{rows_for}

abbrev pub due_of : Group → List (List ℕ) → Bool
due_of g s = due_in g (ports_in g) s

abbrev pub due_at : List (List ℕ) → Bool
due_at s = due_of (group_at s) s

module _ (s : List (List ℕ)) (store out : List ℕ) (d : due_at s ≡ false) where
  record_none : slice_index_or (fetch_of s store out (replicate 8 0)).report 0 0 ≡ 0
  unfolding fetch_of report_if_due record_of
  record_none = cond_by (λ (o : FetchOutcome). slice_index o.report 0 ≡ 0) (lent_fits s store out (replicate 8 0)) _ _ (λ e. rw d refl) (λ e. refl)

  rows_none : (fetch_of s store out (replicate 8 0)).rows ≡ s
  rows_none = fetch_cases s store out (replicate 8 0) (λ r. r ≡ s) refl (λ e f. absurd (true≢false (sym f ∙ d)))

  out_none : (fetch_of s store out (replicate 8 0)).out ≡ out
  unfolding fetch_of out_if_due
  out_none = cond_by (λ (o : FetchOutcome). o.out ≡ out) (lent_fits s store out (replicate 8 0)) _ _ (λ e. rw d refl) (λ e. refl)

module _ (r : Replay) (rows : List (List ℕ)) (store out : List ℕ) (d : due_at (take (rows_for r.ports) rows) ≡ false) where
  pub none_due_lem : is_due r rows store out ≡ false
  unfolding fetch_record_by
  none_due_lem = ap (nat_lt 0) (record_none (take (rows_for r.ports) rows) (take (store_of r.ports r.size r.window) store) out d)

  pub none_rows : fetch_rows_by r rows store out ≡ rows
  unfolding fetch_rows_by
  none_rows =
      ap (λ (x : List (List ℕ)). x ++ drop (rows_for r.ports) rows) (rows_none (take (rows_for r.ports) rows) (take (store_of r.ports r.size r.window) store) out d)
      ∙ take-append-drop (rows_for r.ports) rows

  pub none_out : fetch_out_by r rows store out ≡ out
  unfolding fetch_out_by
  none_out = out_none (take (rows_for r.ports) rows) (take (store_of r.ports r.size r.window) store) out d
