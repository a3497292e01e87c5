-- The minutes' item 2: on every state, a report one of whose whole ruling packets is refused is held, and no output byte changes.
use Rattle.std.specs.Prelude.{◌≡◌, true, ℕ, ◌*◌, ◌≤◌}
use Rattle.std.proofs.Math.Path.{refl}
use mathlib.Core.List.{List}
use Rattle.ground.specs.Truth.{cond_by}
use Rattle.std.proofs.Math.Nat.{zero-mul}
use Rattle.std.proofs.Common.{arith}
use Rattle.invariant.specs.Proofs.Reports.Seen.{seen_good, seen_whole}
use Rattle.judge.specs.declared.seen.Seen.{Seen}
use Rattle.judge.specs.Seen.{size_of}
use Rattle.judge.specs.Theorems.Held.{refused}
use Rattle.judge.specs.Verdict.{HELD, judge_of}
use Rattle.packet.specs.Kinds.{frames}
use Rattle.phases.specs.Sizes.{ports_in}
use Rattle.receiver.specs.Fetch.{FetchOutcome, due_in, fetch_of, lent_fits, out_if_due, report_if_due}
use Rattle.receiver.specs.Laws.Seen.{seen_at_lem}
use Rattle.receiver.specs.Laws.Sizes.{size_is, sizes_of, some_sized}
use Rattle.receiver.specs.Report.{output_by, output_of, report_by, epoch_report, seen_all}
use Rattle.rows.specs.declared.group.Group.{Group}
use Rattle.rows.specs.Group.{group_at}
use Rattle.invariant.specs.Reports.{HeldReport, Refused}

module _ (s : List (List ℕ)) (i : ℕ) (o : Refused s i) where
  abbrev g : Group
  g = group_at s

  abbrev n : ℕ
  n = ports_in (group_at s)

  abbrev seen : List Seen
  seen = seen_all (group_at s) s (ports_in (group_at s))

  few : n ≤ 64
  few =
      let z = some_sized g (let p = o.port in omega arith) in
      let size = (sizes_of g.kind g.count g.payload g.window z.0).few_ports in
      rw z.1 size

  judged : judge_of g.kind seen (size_of n) ≡ HELD
  judged = rw (size_is n few) (refused g.kind seen n i o.port (rw (seen_at_lem g s n i few o.port, seen_whole g s i, seen_good g s i, o.whole, o.refused) refl))

  pub held_out : (store out report : List ℕ) → (fetch_of s store out report).out ≡ out
  unfolding fetch_of out_if_due output_of output_by
  held_out store out report =
      cond_by (λ (o : FetchOutcome). o.out ≡ out) (lent_fits s store out report) _ _
      (λ e. rw judged (cond_by (λ (l : List ℕ). l ≡ out) (due_in g n s) out out (λ d. refl) (λ d. refl))) (λ e. refl)

  pub held_report : due_in g n s ≡ true → HeldReport (report_if_due g n s) g.oldest
  unfolding report_if_due epoch_report report_by
  held_report d = rw (d, judged) (record { mark = refl; epoch_is = refl; none = refl; empty = none (frames g.kind) g.payload })
    where
      none : (L P : ℕ) → 0 * L * P ≡ 0
      none L P = rw (zero-mul L, zero-mul P) refl
