-- A frame's line and its fetches leave a receiver that is kept; of W fetches behind a frame one finds none, and then nothing changes any more.
use Rattle.std.specs.Prelude.{◌≡◌, refl, ◌⊎◌, Bool, false, cond, ◌&&◌, ℕ, zero, suc, ◌*◌, ◌≤◌, ◌<◌, eqb, get_or, replicate}
use Rattle.std.proofs.Math.Path.{sym, ap, subst}
use Rattle.std.proofs.Common.{◌∙◌, inl, inr, ⊎_elim, mul-le-mul_left, arith}
use Rattle.std.proofs.Math.Bool.{true}
use Rattle.std.proofs.lemmas.Bool.{false≢true}
use mathlib.Core.List.{List, [], ◌∷◌, ◌++◌}
use Rattle.ground.specs.Truth.{cond_by}
use Rattle.std.proofs.Math.Dec.{ltb}
use Rattle.std.proofs.Math.ListN.{drop, length, take, take-append-drop}
use Rattle.std.proofs.lemmas.List.{length-replicate}
use Rattle.std.proofs.Math.Seq.{length-take-le, take-append_seam}
use borrow.Author.Tests.{lt-ltb}
use Rattle.invariant.specs.Calls.{Fetch, Frame}
use Rattle.invariant.specs.Kept.Group.{Kept}
use Rattle.invariant.specs.Proofs.Calls.{call_kept}
use Rattle.invariant.specs.Proofs.Kept.Calls.{fetch_kept}
use Rattle.invariant.specs.Proofs.Kept.WithinCall.{windowed}
use Rattle.invariant.specs.Proofs.Reports.Groups.{fetch_none}
use Rattle.invariant.specs.Proofs.Sizes.{fetch_sizes, frame_sizes}
use Rattle.invariant.specs.Reports.{Given}
use Rattle.judge.specs.declared.seen.Seen.{Seen}
use Rattle.judge.specs.Seen.{size_of}
use Rattle.judge.specs.Verdict.{DOUBTFUL, HELD, SURE, doubtful_by, fixed_held, fixed_verdict, held_by, judge_of, lcas_verdict}
use Rattle.none_due.specs.Desks.{Ready, is_due_at, own_rows, own_store}
use Rattle.none_due.specs.Fetches.{AllGive}
use Rattle.none_due.specs.Proofs.Fetched.{few_due}
use Rattle.packet.specs.Kinds.{fixed_kind, frames}
use Rattle.packet.specs.Theorems.Tags.{frames_two}
use Rattle.phases.specs.Sizes.{ports_in}
use Rattle.receiver.specs.declared.report.Report.{Report}
use Rattle.receiver.specs.Fetch.{FetchOutcome, due_in, fetch_of, lent_fits, record_of, report_if_due}
use Rattle.receiver.specs.Frame.{frame_of}
use Rattle.receiver.specs.Report.{report_by, epoch_report, seen_all}
use Rattle.recording.specs.declared.record.Record.{Record}
use Rattle.recording.specs.declared.record.Record.TheVariants as R
use Rattle.replay_lines.specs.declared.replay.Phase.{Phase}
use Rattle.replay_lines.specs.declared.replay.Replay.{Replay}
use Rattle.replay_lines.specs.Laws.Lengths.{length_fetch_rows, length_frame_rows, length_part}
use Rattle.replay_lines.specs.Runs.{Desk, desk_after, desk_by, desk_through, fetched, framed, line_in, read_by, reported}
use Rattle.replay_lines.specs.Turn.{fetch_record_by, fetch_rows_by, framed_rows, payload_at}
use Rattle.rows.specs.Group.{group_at}
use Rattle.rows.specs.Rows.{rows_for}

judge_some : (kind : ℕ) (ports : List Seen) (n : ℕ) → 0 < judge_of kind ports n
unfolding judge_of lcas_verdict fixed_verdict
judge_some kind ports n = go (eqb kind fixed_kind) (fixed_held ports n) (held_by ports n) (doubtful_by ports n)
  where
    go : (a b c d : Bool) → 0 < cond a (cond b HELD SURE) (cond c HELD (cond d DOUBTFUL SURE))
    go true true c d = omega arith
    go true false c d = omega arith
    go false b true d = omega arith
    go false b false true = omega arith
    go false b false false = omega arith

module _ (out : List ℕ) where
  -- what goes on from line to line
  record Going (d : Desk) : Type 0 where
    enough : rows_for d.replay.ports ≤ length d.rows
    kept : Kept (own_rows d)
    window : (group_at (own_rows d)).window ≡ d.replay.window

  abbrev eight : List ℕ
  eight = replicate 8 0

  abbrev gives_at : Desk → Bool
  gives_at d = lent_fits (own_rows d) (own_store d) out eight && due_in (group_at (own_rows d)) (ports_in (group_at (own_rows d))) (own_rows d)

  -- a mark above 0 says that a report was given
  due_is : (d : Desk) → is_due_at out d ≡ gives_at d
  unfolding fetch_record_by fetch_of report_if_due record_of epoch_report report_by
  due_is d =
      cond_by
      (λ (o : FetchOutcome). ltb 0 (get_or o.report 0 0) ≡ (lent_fits (own_rows d) (own_store d) out eight && due_in (group_at (own_rows d)) (ports_in (group_at (own_rows d))) (own_rows d)))
      (lent_fits (own_rows d) (own_store d) out eight) _ _
      (λ e.
      rw e
      (cond_by (λ (r : Report). ltb 0 (get_or (record_of r) 0 0) ≡ due_in (group_at (own_rows d)) (ports_in (group_at (own_rows d))) (own_rows d)) (due_in (group_at (own_rows d)) (ports_in (group_at (own_rows d))) (own_rows d)) _ _
      (λ f. mark ∙ sym f) (λ f. sym f)))
      (λ e. rw e refl)
    where
      mark : ltb 0 (judge_of (group_at (own_rows d)).kind (seen_all (group_at (own_rows d)) (own_rows d) (ports_in (group_at (own_rows d)))) (size_of (ports_in (group_at (own_rows d))))) ≡ true
      mark = lt-ltb 0 _ (judge_some (group_at (own_rows d)).kind (seen_all (group_at (own_rows d)) (own_rows d) (ports_in (group_at (own_rows d)))) (size_of (ports_in (group_at (own_rows d)))))

  due_given : (d : Desk) → is_due_at out d ≡ true → Given (own_rows d) (own_store d) out eight
  due_given d e = go (lent_fits (own_rows d) (own_store d) out eight) (due_in (group_at (own_rows d)) (ports_in (group_at (own_rows d))) (own_rows d)) refl refl (sym (due_is d) ∙ e)
    where
      go : (a b : Bool) → lent_fits (own_rows d) (own_store d) out eight ≡ a → due_in (group_at (own_rows d)) (ports_in (group_at (own_rows d))) (own_rows d) ≡ b → (a && b) ≡ true → Given (own_rows d) (own_store d) out eight
      go true true e f t = record { fitting = e; due = f }
      go true false e f t = absurd (false≢true t)
      go false b e f t = absurd (false≢true t)

  -- the group's own rows behind a fetch and behind a frame
  fetched_own : (d : Desk) → Going d → own_rows (fetched out d) ≡ (fetch_of (own_rows d) (own_store d) out eight).rows
  unfolding fetch_rows_by
  fetched_own d g =
      let n = rows_for d.replay.ports in
      let x = (fetch_of (own_rows d) (own_store d) out eight).rows in
      let e : length x ≡ n = length_fetch_rows (own_rows d) (own_store d) out eight ∙ length-take-le n d.rows g.enough in
      ap (λ (m : ℕ). take m (x ++ drop n d.rows)) (sym e) ∙ take-append_seam x (drop n d.rows)

  fetched_long : (d : Desk) → Going d → length (fetched out d).rows ≡ length d.rows
  unfolding fetch_rows_by
  fetched_long d g = length_part (rows_for d.replay.ports) d.rows (fetch_of (own_rows d) (own_store d) out eight).rows g.enough (length_fetch_rows (own_rows d) (own_store d) out eight)

  fetched_goes : (d : Desk) → Going d → Going (fetched out d)
  fetched_goes d g =
      record {
        enough = rw (fetched_long d g) g.enough;
        kept = rw (fetched_own d g) (fetch_kept (own_rows d) g.kept (own_store d) out eight);
        window = rw (fetched_own d g) ((fetch_sizes (own_rows d) g.kept (own_store d) out eight).window ∙ g.window);
      }

  framed_goes : (d : Desk) → Going d → (line : List ℕ) (port h4 : ℕ) (flag : Bool) (place : ℕ) → Going (framed out d line port h4 flag place)
  unfolding framed_rows
  framed_goes d g line port h4 flag place =
      let n = rows_for d.replay.ports in
      let p = payload_at d.replay.size place line in
      let x = (frame_of (own_rows d) port flag h4 p (own_store d)).rows in
      let l = length_frame_rows (own_rows d) port flag h4 p (own_store d) in
      let e : length x ≡ n = l ∙ length-take-le n d.rows g.enough in
      let own : take n (x ++ drop n d.rows) ≡ x = ap (λ (m : ℕ). take m (x ++ drop n d.rows)) (sym e) ∙ take-append_seam x (drop n d.rows) in
      let long = length_part n d.rows x g.enough l in
      record {
        enough = rw long g.enough;
        kept = rw own (call_kept (record { rows = own_rows d; store = own_store d }) (Frame port flag h4 p) g.kept);
        window = rw own ((frame_sizes (own_rows d) g.kept port flag h4 p (own_store d)).window ∙ g.window);
      }

  -- where none is due a fetch changes nothing
  none_stays : (d : Desk) → Going d → is_due_at out d ≡ false → is_due_at out (fetched out d) ≡ false
  unfolding fetch_rows_by
  none_stays d g e =
      let n = rows_for d.replay.ports in
      let same : (fetch_of (own_rows d) (own_store d) out eight).rows ++ drop n d.rows ≡ d.rows =
      ap (λ (x : List (List ℕ)). x ++ drop n d.rows) (fetch_none (own_rows d) (own_store d) out eight (sym (due_is d) ∙ e)) ∙ take-append-drop n d.rows in
      ap (λ (r : List (List ℕ)). is_due_at out (record { replay = d.replay; rows = r; store = d.store })) same ∙ e

  -- every one of so many fetches gives a report
  abbrev AllDue : ℕ → Desk → Type 0
  AllDue zero d = Unit {0}
  AllDue (suc k) d = (is_due_at out d ≡ true) × AllDue k (fetched out d)

  all_gives : (k : ℕ) (d : Desk) → Going d → AllDue k d → AllGive (record { rows = own_rows d; store = own_store d }) (replicate k (Fetch out eight))
  all_gives zero d g a = tt
  all_gives (suc k) d g a =
      let rest = all_gives k (fetched out d) (fetched_goes d g) a.1 in
      (due_given d a.0, rw (fetched_own d g) at rest)

  -- so many fetches have left a desk r
  record Left (r : Desk) (k : ℕ) (d : Desk) : Type 0 where
    goes : Going r
    none : (is_due_at out r ≡ false) ⊎ AllDue k d

  left_of_lem : (k : ℕ) (d : Desk) → Going d → Left (reported out k d) k d
  left_of_lem zero d g = record { goes = g; none = inr tt }
  left_of_lem (suc k) d g = go (is_due_at out d) refl (left_of_lem k (fetched out d) (fetched_goes d g))
    where
      go : (b : Bool) → is_due_at out d ≡ b → Left (reported out k (fetched out d)) k (fetched out d) → Left (cond b (reported out k (fetched out d)) (fetched out d)) (suc k) d
      go true e l =
          record {
            goes = l.goes;
            none = ⊎_elim (λ (n : is_due_at out (reported out k (fetched out d)) ≡ false). inl n) (λ (a : AllDue k (fetched out d)). inr (e, a)) l.none;
          }
      go false e l = record { goes = fetched_goes d g; none = inl (none_stays d g e) }

  -- W fetches that all give a report are too many
  not_all : (d : Desk) → Going d → AllDue d.replay.window d → ⊥
  not_all d g a =
      let W = d.replay.window in
      let s = own_rows d in
      let f = frames (group_at s).kind in
      let m : length (replicate W (Fetch out eight)) * f ≤ (group_at s).window = few_due (record { rows = s; store = own_store d }) g.kept (replicate W (Fetch out eight)) (all_gives W d g a) in
      let l : length (replicate W (Fetch out eight)) ≡ W = length-replicate W (Fetch out eight) in
      let n : W * f ≤ W = rw (l, g.window) at m in
      let two = frames_two (group_at s).kind in
      let more : W * 2 ≤ W * f = mul-le-mul_left W two in
      let wide : f ≤ (group_at s).window = (windowed (group_at s) g.kept.lasting.group).least in
      let w = g.window in
      omega arith

  going : (d : Desk) → Ready out d → Going d
  going d r = record { enough = r.enough; kept = r.kept; window = r.window }

  reported_replay : (k : ℕ) (d : Desk) → (reported out k d).replay ≡ d.replay
  reported_replay zero d = refl
  reported_replay (suc k) d = go (is_due_at out d) (reported_replay k (fetched out d))
    where
      go : (b : Bool) → (reported out k (fetched out d)).replay ≡ d.replay → (cond b (reported out k (fetched out d)) (fetched out d)).replay ≡ d.replay
      go true e = e
      go false e = refl

  -- a frame's line and its fetches
  frame_ready : (d : Desk) → Ready out d → (line : List ℕ) (port h4 : ℕ) (flag : Bool) (place : ℕ) → Ready out (reported out d.replay.window (framed out d line port h4 flag place))
  frame_ready d r line port h4 flag place =
      let f = framed out d line port h4 flag place in
      let g = framed_goes d (going d r) line port h4 flag place in
      let l = left_of_lem d.replay.window f g in
      let e = reported_replay d.replay.window f in
      record {
        reading = ap (λ (x : Replay). x.phase) e;
        enough = l.goes.enough;
        kept = l.goes.kept;
        window = l.goes.window;
        none =
            ⊎_elim (λ (n : is_due_at out (reported out d.replay.window f) ≡ false). n) (λ (a : AllDue d.replay.window f). absurd (not_all f g a)) l.none;
      }

  line_ready : (d : Desk) → Ready out d → (line : List ℕ) (x : Record) → Ready out (read_by out d line x)
  unfolding fetch_record_by
  line_ready d r line (R.Frame port h4 flag place next) = frame_ready d r line port h4 flag place
  line_ready d r line (R.Malformed next) = record { reading = refl; enough = r.enough; kept = r.kept; window = r.window; none = r.none }
  line_ready d r line R.Long = record { reading = refl; enough = r.enough; kept = r.kept; window = r.window; none = r.none }
  line_ready d r line R.Unfinished = r
  line_ready d r line R.End = r

  after_ready : (d : Desk) → Ready out d → (line : List ℕ) → Ready out (desk_after out d line)
  unfolding desk_after
  after_ready d r line = subst (λ (p : Phase). Ready out (desk_by out p d line)) (sym r.reading) (line_ready d r line (line_in out d line))

  pub stays_ready : (d : Desk) → Ready out d → (lines : List (List ℕ)) → Ready out (desk_through out d lines)
  stays_ready d r [] = r
  stays_ready d r (l ∷ ls) = stays_ready (desk_after out d l) (after_ready d r l) ls
