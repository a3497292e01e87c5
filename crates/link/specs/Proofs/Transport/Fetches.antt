-- Fetches after the beginning: none is due while a port owes a frame of the oldest epoch, and otherwise the epoch is told as its contents say.
-- The idea: where no port owes, all first marks are set, so what is seen of each port is given by its ruling packet (`seen_one`), and mark and order by that. The bytes stand in the store (`all_stand`). The report is compared field by field with the one that the contents give (`told_is`), and the window is an epoch further (`later_fetched`).
use Rattle.std.specs.Prelude.{◌≡◌, ◌≢◌, Bool, eqb, length, replicate}
use Rattle.std.proofs.Math.Path.{refl, ap}
use Rattle.std.proofs.Common.{sym, ◌∙◌}
use Rattle.std.proofs.Math.Bool.{true, false, cond, or-true}
use mathlib.Core.List.{List, [], ◌∷◌, ◌++◌}
use Prim.Native.Nat.{ℕ, zero, suc, ◌+◌, ◌-◌, ◌*◌, ◌/◌, ◌%◌, ◌≤◌, ◌<◌}
use native.Mathlib.Omega.{arith}
use Rattle.std.proofs.Math.Dec.{ltb}
use Rattle.std.proofs.Math.ListN.{drop, get_or, take}
use borrow.Author.Tests.{eq-eqb, le-leb, lt-ltb, ltb-true}
use Rattle.ground.specs.Drawn.{drawn_by}
use Rattle.ground.specs.Table.{length_tabulate, tabulate, tabulate_suc}
use Rattle.judge.specs.declared.order.Order.{Order}
use Rattle.judge.specs.declared.seen.Seen.{Seen}
use Rattle.judge.specs.Cause.{cause_of}
use Rattle.judge.specs.Order.{order_of}
use Rattle.judge.specs.Theorems.Ranks.{active_le}
use Rattle.judge.specs.Verdict.{HELD, doubtful_by, fixed_held, fixed_verdict, held_by, judge_of, lcas_verdict}
use Rattle.packet.specs.Kinds.{fixed_kind, frames}
use Rattle.packet.specs.Laws.Epochs.{count_fits}
use Rattle.packet.specs.Theorems.Tags.{epoch_before, first_of}
use Rattle.phases.specs.Due.{brought}
use Rattle.phases.specs.Laws.Lengths.{length_passed}
use Rattle.phases.specs.Passing.{passed_of}
use Rattle.phases.specs.Sizes.{store_for}
use Rattle.receiver.specs.Fetch.{due_in, fetch_of, lent_fits, out_if_due, report_if_due, rows_if_due, record_of}
use Rattle.receiver.specs.Laws.Sizes.{size_is}
use Rattle.receiver.specs.Lengths.{fetch_fits, output_for, rows_fit}
use Rattle.receiver.specs.Report.{frames_into, no_seen, output_by, output_of, report_by, epoch_report, reported_of, ruling_epoch, seen_all, seen_of, states_worked_out}
use Rattle.rows.specs.declared.group.Group.{Group}
use Rattle.rows.specs.Group.{group_at}
use Rattle.rows.specs.Rows.{rows_for}
use Rattle.store.specs.Frames.{Stands}
use Rattle.link.specs.Proofs.Contents.{all_seen_after, frames_from, number_of, report_after, seen_after}
use Rattle.link.specs.Road.{L, Road}
use Rattle.link.specs.Proofs.Fair.{Fair, sizes_in}
use Rattle.link.specs.Running.{Moment, drained, fetched, lent_at, output_at, record_at, told_by}
use Rattle.link.specs.Proofs.Standing.{Later, Lined, Owes}
use Rattle.link.specs.Told.{Told}
use Rattle.link.specs.Proofs.Transport.Bytes.{frames_beyond, frames_taken}
use Rattle.link.specs.Proofs.Transport.Call.{ports_are}
use Rattle.link.specs.Proofs.Transport.Due.{AllCome, brought_all, brought_not, first_all}
use Rattle.link.specs.Proofs.Transport.Passed.{gathered_now, joined_kept, open_passed, passed_to, ruling_now, whole_now}
use Rattle.link.specs.Proofs.Transport.StaysOpen.{gathered_told, open_stays, ruling_told, window_told}

-- The numbers of a report.

by_bytes : (a b c d m q n : ℕ) → n ≡ m * 256 + d → m ≡ q * 256 + c → q ≡ a * 256 + b → a * 16777216 + b * 65536 + c * 256 + d ≡ n
by_bytes a b c d m q n x y z = omega arith

halves : (n : ℕ) → n ≡ n / 256 * 256 + n % 256
halves n = omega arith

last_half : (n : ℕ) → n < 65536 → n ≡ n / 256 % 256 * 256 + n % 256
last_half n h = omega arith

four_bytes : (n : ℕ) → n < 4294967296 → n / 16777216 % 256 * 16777216 + n / 65536 % 256 * 65536 + n / 256 % 256 * 256 + n % 256 ≡ n
four_bytes n h =
    let b : n / 65536 ≡ n / 256 / 256 = omega arith in
    let c : n / 16777216 ≡ n / 256 / 256 / 256 = omega arith in
    let small : n / 256 / 256 < 65536 = omega arith in
    rw (b, c)
    (by_bytes (n / 256 / 256 / 256 % 256) (n / 256 / 256 % 256) (n / 256 % 256) (n % 256) (n / 256) (n / 256 / 256) n (halves n) (halves (n / 256)) (last_half (n / 256 / 256) small))

told_same : (a b : Told) → a.epoch ≡ b.epoch → a.mark ≡ b.mark → a.bytes ≡ b.bytes → a.rest ≡ b.rest → a ≡ b
told_same a b e k c d = λ i. record { epoch = e i; mark = k i; bytes = c i; rest = d i }

mark_some : (kind : ℕ) (seen : List Seen) (n : ℕ) → judge_of kind seen n ≢ 0
unfolding judge_of lcas_verdict fixed_verdict
mark_some kind seen n = go (eqb kind fixed_kind) (fixed_held seen n) (held_by seen n) (doubtful_by seen n)
  where
    go : (f c a b : Bool) → ◌≢◌ {A = ℕ} (cond f (cond c 1 3) (cond a 1 (cond b 2 3))) 0
    go true true a b e = omega arith
    go true false a b e = omega arith
    go false c true b e = omega arith
    go false c false true e = omega arith
    go false c false false e = omega arith

fetched_answers : (r : Road) (m : Moment) → (fetched r m).answers ≡ m.answers
unfolding fetched
fetched_answers r m = refl

module _ (r : Road) (fair : Fair r) where
  -- A fetch is not refused.
  module _ (m : Moment) (l : Lined r m) where
    pub fits_now : lent_fits m.rows m.store (output_at r m) (lent_at r m) ≡ true
    unfolding lent_fits fetch_fits rows_fit store_for output_for
    fits_now =
        rw (
          ports_are r fair m l,
          eq-eqb (length m.rows) (rows_for r.ports) l.rows_long,
          l.payload_is,
          l.window_is,
          l.kind_is,
          eq-eqb (length m.store) (r.ports * r.window * (r.payload + 1)) l.store_long,
          le-leb (r.ports * L r * r.payload) (length (output_at r m)) (fair.room (length m.told)),
          eq-eqb (length (lent_at r m)) 8 (fair.eight (length m.answers) (length m.told)),
          or-true (eqb r.ports 0),
        )
        refl

    pub fetch_answered : (fetch_of m.rows m.store (output_at r m) (lent_at r m)).answer ≡ 0
    unfolding fetch_of
    fetch_answered = rw fits_now refl

    -- none due
    pub mark_none : due_in (group_at m.rows) r.ports m.rows ≡ false → get_or (record_at r m) 0 0 ≡ 0
    unfolding fetch_of report_if_due record_of
    mark_none e =
        let none : get_or (fetch_of m.rows m.store (output_at r m) (lent_at r m)).report 0 0 ≡ 0 = rw (fits_now, ports_are r fair m l, e) refl in
        none

  some_due : ltb 0 r.ports ≡ true
  some_due =
      let s = sizes_in r fair in
      lt-ltb 0 r.ports s.some_ports

  module _ (m : Moment) (coming : ℕ → ℕ) (j i : ℕ) (o : Later r m coming j i) where
    abbrev g : Group
    g = group_at m.rows

    abbrev lined : Lined r m
    lined = o.open_at.lined

    due_is : due_in g r.ports m.rows ≡ brought g m.rows r.ports
    unfolding due_in
    due_is = rw (some_due, o.open_at.begun, o.gathered) refl

    -- a port owes a frame of the oldest epoch
    pub owed_mark : Owes r coming (suc i) → get_or (record_at r m) 0 0 ≡ 0
    owed_mark w = mark_none m lined (due_is ∙ brought_not r fair m coming (suc i) o.open_at w)

    -- none does
    module _ (all : AllCome r coming (suc i)) where
      due_now : due_in g r.ports m.rows ≡ true
      due_now = due_is ∙ brought_all r fair m coming (suc i) o.open_at all

      ruled_by_lem : ruling_epoch g ≡ number_of r i
      unfolding ruling_epoch number_of
      ruled_by_lem = rw (lined.kind_is, o.open_at.oldest) (epoch_before r.kind r.offset i fair.starts)

      seen_one : (p : ℕ) → p < r.ports → seen_of g m.rows p ≡ seen_after r i p
      unfolding seen_of seen_after
      seen_one p b = rw (ruled_by_lem, lined.kind_is, o.ruling p b, o.whole p b, first_all r fair m coming (suc i) o.open_at all p b) refl

      few : r.ports ≤ 64
      few = (sizes_in r fair).few_ports

      seen_is : seen_all g m.rows r.ports ≡ all_seen_after r i
      unfolding seen_all all_seen_after
      seen_is =
          rw (size_is r.ports few)
          (drawn_by (λ k. ltb k r.ports) (λ k. ltb k r.ports) (seen_of g m.rows) (seen_after r i) (replicate 64 no_seen) (λ k b. refl)
          (λ k b t. seen_one k (ltb-true k r.ports t)))

      abbrev seen : List Seen
      seen = all_seen_after r i

      abbrev mark : ℕ
      mark = judge_of r.kind seen r.ports

      abbrev cause : ℕ
      cause = cause_of r.kind seen r.ports

      abbrev order : Order
      order = order_of seen r.ports

      record_is : record_at r m ≡ record_of (report_by g mark cause order)
      unfolding fetch_of report_if_due epoch_report
      record_is =
          let is : (fetch_of m.rows m.store (output_at r m) (lent_at r m)).report ≡ record_of (report_by g mark cause order) =
          rw (fits_now m lined, ports_are r fair m lined, due_now, seen_is, size_is r.ports few, lined.kind_is) refl in
          is

      out_is : (fetch_of m.rows m.store (output_at r m) (lent_at r m)).out ≡ output_by g mark order m.store (output_at r m)
      unfolding fetch_of out_if_due output_of
      out_is = rw (fits_now m lined, ports_are r fair m lined, due_now, seen_is, size_is r.ports few, lined.kind_is) refl

      rows_are : (fetch_of m.rows m.store (output_at r m) (lent_at r m)).rows ≡ reported_of g m.store r.ports m.rows
      unfolding fetch_of rows_if_due
      rows_are = rw (fits_now m lined, ports_are r fair m lined, due_now) refl

      mark_told : get_or (record_at r m) 0 0 ≡ mark
      unfolding record_of report_by
      mark_told = rw record_is refl

      epoch_told : get_or (record_at r m) 1 0 ≡ number_of r (suc i)
      unfolding record_of report_by number_of
      epoch_told = rw (record_is, ← o.open_at.oldest) (sym (first_of r.kind g.oldest o.open_at.oldest_small).0)

      -- the byte count
      abbrev X : ℕ
      X = cond (eqb mark HELD) 0 order.x

      x_few : order.x ≤ 64
      unfolding order_of
      x_few = let a = active_le seen r.ports in let f = few in omega arith

      count_told : get_or (record_at r m) 4 0 * 16777216 + get_or (record_at r m) 5 0 * 65536 + get_or (record_at r m) 6 0 * 256 + get_or (record_at r m) 7 0 ≡ X * frames g.kind * g.payload
      unfolding record_of report_by
      count_told = rw record_is (four_bytes (X * frames g.kind * g.payload) (count_fits g.kind X g.payload (go (eqb mark HELD)) most))
        where
          go : (b : Bool) → cond b 0 order.x ≤ 64
          go true = omega arith
          go false = x_few

          most : g.payload ≤ 2340
          most = rw lined.payload_is (sizes_in r fair).few_bytes

      all_stand : (p k : ℕ) → p < r.ports → k < L r → Stands g p k (r.bytes p (suc i * L r + k)) (r.h4 p (suc i * L r + k)) m.store
      all_stand p k b h =
          let c = all p b in
          let e : suc i * L r + k - suc i * L r ≡ k = omega arith in
          rw e at (o.open_at.stands p (suc i * L r + k) b (omega arith) (omega arith))

      bytes_told : take (X * frames g.kind * g.payload) (output_by g mark order m.store (output_at r m)) ≡ (report_after r i (output_at r m)).bytes
      unfolding output_by report_after
      bytes_told = go (eqb mark HELD)
        where
          go : (b : Bool)
              → take (cond b 0 order.x * frames g.kind * g.payload) (cond b (output_at r m) (frames_into g order m.store (frames g.kind) (output_at r m)))
              ≡ cond b [] (frames_from r seen (suc i * L r) (L r))
          go true = let z : 0 * frames g.kind * g.payload ≡ 0 = omega arith in rw z refl
          go false =
              let e : order.x * frames g.kind * g.payload ≡ frames g.kind * (order.x * g.payload) = omega arith in
              let same : frames g.kind ≡ L r = ap frames lined.kind_is in
              rw (e, same)
              (frames_taken r fair g lined.kind_is lined.payload_is lined.window_is m.store lined.store_long (suc i * L r) all_stand seen (output_at r m)
              (fair.room (length m.told)))

      -- the output beyond them
      rest_told : drop (X * frames g.kind * g.payload) (output_by g mark order m.store (output_at r m)) ≡ (report_after r i (output_at r m)).rest
      unfolding output_by report_after
      rest_told = go (eqb mark HELD)
        where
          go : (b : Bool)
              → drop (cond b 0 order.x * frames g.kind * g.payload) (cond b (output_at r m) (frames_into g order m.store (frames g.kind) (output_at r m)))
              ≡ drop (length (cond b [] (frames_from r seen (suc i * L r) (L r)))) (output_at r m)
          go true = let z : 0 * frames g.kind * g.payload ≡ 0 = omega arith in rw z refl
          go false =
              let e : order.x * frames g.kind * g.payload ≡ frames g.kind * (order.x * g.payload) = omega arith in
              let same : frames g.kind ≡ L r = ap frames lined.kind_is in
              rw (e, same)
              (frames_beyond r fair g lined.kind_is lined.payload_is lined.window_is m.store lined.store_long (suc i * L r) all_stand seen (output_at r m)
              (fair.room (length m.told)))

      -- exactly the report that the contents give
      told_is : told_by r (record_at r m) (fetch_of m.rows m.store (output_at r m) (lent_at r m)).out ≡ report_after r i (output_at r m)
      unfolding report_after
      told_is = told_same _ (report_after r i (output_at r m)) epoch_told mark_told (rw (count_told, out_is) bytes_told) (rw (count_told, out_is) rest_told)

      -- it is the report numbered i - j, and so is the output
      output_now : output_at r m ≡ r.output (i - j)
      output_now = ap r.output (ap length o.told ∙ length_tabulate (i - j) (λ k. report_after r (j + k) (r.output k)))

      told_now : (fetched r m).told ≡ tabulate (suc i - j) (λ k. report_after r (j + k) (r.output k))
      unfolding fetched
      told_now =
          let c = o.come in
          let e : suc i - j ≡ suc (i - j) = omega arith in
          let last : j + (i - j) ≡ i = omega arith in
          ap (λ (t : Told). m.told ++ (t ∷ [])) (told_is ∙ ap (report_after r i) output_now)
          ∙ rw (o.told, e) (sym (tabulate_suc (i - j) (λ k. report_after r (j + k) (r.output k)) ∙ rw last refl))

      -- the window after it
      abbrev mid : Moment
      mid = record { rows = passed_of g m.store r.ports m.rows; store = m.store; answers = m.answers; told = m.told }

      rows_now : (fetched r m).rows ≡ states_worked_out (group_at mid.rows) r.ports mid.rows
      unfolding fetched reported_of
      rows_now = rows_are

      store_now : (fetched r m).store ≡ mid.store
      unfolding fetched
      store_now = refl

      pub later_fetched : Later r (fetched r m) coming j (suc i)
      later_fetched =
          let long : length m.rows ≡ rows_for r.ports = lined.rows_long in
          let enough : rows_for r.ports ≤ length mid.rows = rw (length_passed g m.store r.ports m.rows) (omega arith) in
          let t = passed_to r m mid long refl refl in
          let here = o.open_at in
          let c = o.come in
          let a = window_told r mid (fetched r m) enough rows_now store_now in
          record {
            open_at = open_stays r mid (fetched r m) coming (suc (suc i)) a (open_passed r fair m mid coming (suc i) here t all);
            gathered = gathered_told r mid (fetched r m) enough rows_now store_now ∙ gathered_now r fair m mid coming (suc i) here t all;
            come = omega arith;
            within = λ p b. let h = all p b in omega arith;
            joined = λ p b. rw (a.steps p b) (joined_kept r fair m mid coming (suc i) here t all p b ∙ o.joined p b);
            whole = λ p b. rw (a.steps p b) (whole_now r fair m mid coming (suc i) here t all p b);
            ruling = λ p b. rw (ruling_told r mid (fetched r m) enough rows_now store_now p b) (ruling_now r fair m mid coming (suc i) here t all p b);
            told = told_now;
          }

      pub due_mark : get_or (record_at r m) 0 0 ≢ 0
      due_mark e = mark_some r.kind seen r.ports (sym mark_told ∙ e)

  -- fetches answer no frame
  pub drained_answers : (k : ℕ) (m : Moment) → (drained r k m).answers ≡ m.answers
  unfolding drained
  drained_answers zero m = refl
  drained_answers (suc k) m = go (eqb (get_or (record_at r m) 0 0) 0) (drained_answers k (fetched r m))
    where
      go : (b : Bool) → (drained r k (fetched r m)).answers ≡ (fetched r m).answers → (cond b m (drained r k (fetched r m))).answers ≡ m.answers
      go true e = refl
      go false e = e ∙ fetched_answers r m
