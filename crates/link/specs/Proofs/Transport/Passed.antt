-- The window passes an epoch that all ports have brought: gathered, or reported.
use Rattle.std.specs.Prelude.{◌≡◌, refl, Bool, true, cond, [], ℕ, suc, ◌+◌, ◌-◌, ◌*◌, ◌≤◌, ◌<◌, leb, get_or, length}
use Rattle.std.proofs.Common.{sym, ap, ◌∙◌, ⊎_elim}
use native.Mathlib.Omega.{arith}
use Rattle.std.proofs.lemmas.Bool.{lt-leb}
use Rattle.ground.specs.Truth.{le_or_lt}
use Rattle.packet.specs.Kinds.{first_tag, frames, tag_of}
use Rattle.packet.specs.Laws.Epochs.{marks_enough}
use Rattle.packet.specs.Theorems.Tags.{epoch_after_lt, first_after, frames_some}
use Rattle.phases.specs.Laws.Lengths.{length_passed}
use Rattle.phases.specs.Laws.Passed.{passed_group_lem, passed_marks_at, passed_of_port, passed_step_at}
use Rattle.phases.specs.Passing.{passed_group, passed_of, passed_step}
use Rattle.phases.specs.Theorems.Settled.{passed_begun}
use Rattle.receiver.specs.Laws.Passed.{origin_within, passed_count, passed_gathered, passed_kind, passed_oldest, passed_origin, passed_payload, passed_window, step_joined, step_later, step_since, step_whole}
use Rattle.rows.specs.declared.group.Group.{Group}
use Rattle.rows.specs.declared.step.Step.{Step}
use Rattle.rows.specs.Group.{group_at}
use Rattle.rows.specs.Packets.{marks_at, packets_at}
use Rattle.rows.specs.Port.{Port, port_at}
use Rattle.rows.specs.Rows.{rows_for}
use Rattle.rows.specs.Step.{step_at}
use Rattle.store.specs.Frames.{Stands, packet_in}
use Rattle.store.specs.Laws.Marks.{mark_beyond, mark_passed, sixteen_passed}
use Rattle.store.specs.Laws.Stands.{packet_stands, stands_moved}
use Rattle.store.specs.Marks.{first_mark, mark_in, passed_marks}
use Rattle.link.specs.Proofs.Contents.{packet_of}
use Rattle.link.specs.Road.{L, Road}
use Rattle.link.specs.Proofs.Fair.{Fair, sizes_in}
use Rattle.link.specs.Running.{Moment}
use Rattle.link.specs.Proofs.Standing.{Lined, Open, Stepped}
use Rattle.link.specs.Proofs.Transport.Due.{AllCome, first_all}

-- of a step record, as an epoch passed leaves it
stepped_passed : (r : Road) (x : ℕ) (s : Step) (whole : Bool) → Stepped r x s → Stepped r x (passed_step s whole)
unfolding passed_step
stepped_passed r x s whole h = h

-- what passing the oldest epoch does to the rows that an open window looks at
pub record PassedTo (r : Road) (m m' : Moment) : Type 0 where
  pub rows_long : length m'.rows ≡ length m.rows
  pub stores : m'.store ≡ m.store
  pub group_is : group_at m'.rows ≡ passed_group (group_at m.rows)
  pub steps : (p : ℕ) → p < r.ports → step_at m'.rows p ≡ passed_step (step_at m.rows p) (first_mark (marks_at m.rows p))
  pub marks : (p : ℕ) → p < r.ports → marks_at m'.rows p ≡ passed_marks (marks_at m.rows p)
  pub gathering : (p : ℕ) → p < r.ports → (port_at m'.rows p).gathering ≡ (port_at m.rows p).gathering
  pub ruling : (p : ℕ) → p < r.ports
      → get_or (packets_at m'.rows p) 1 [] ≡ cond (first_mark (marks_at m.rows p)) (packet_in (group_at m.rows) p m.store) (get_or (packets_at m.rows p) 1 [])

module _ (r : Road) (m m' : Moment) (long : length m.rows ≡ rows_for r.ports) where
  pub passed_to : m'.rows ≡ passed_of (group_at m.rows) m.store r.ports m.rows → m'.store ≡ m.store → PassedTo r m m'
  unfolding port_at
  passed_to is stores =
      let g = group_at m.rows in
      record {
        rows_long = rw is (length_passed g m.store r.ports m.rows);
        stores = stores;
        group_is = rw is (passed_group_lem g m.store r.ports m.rows (omega arith));
        steps = λ p b. rw is (passed_step_at g m.store r.ports m.rows p b (omega arith));
        marks = λ p b. rw is (passed_marks_at g m.store r.ports m.rows p b (omega arith));
        gathering = λ p b. rw is (ap (λ (q : Port). q.gathering) (passed_of_port g m.store r.ports m.rows p b (omega arith)));
        ruling = λ p b. rw is (ap (λ (q : Port). q.ruling) (passed_of_port g m.store r.ports m.rows p b (omega arith)));
      }

module _ (r : Road) (fair : Fair r) (m m' : Moment) (coming : ℕ → ℕ) (i : ℕ) (o : Open r m coming i) (t : PassedTo r m m') (all : AllCome r coming i) where
  abbrev g : Group
  g = group_at m.rows

  wide : 0 < g.window
  wide =
      let s = sizes_in r fair in
      let n = frames_some r.kind in
      rw o.lined.window_is (omega arith)

  -- every port has brought the epoch
  first_brought : (p : ℕ) → p < r.ports → first_mark (marks_at m.rows p) ≡ true
  first_brought = first_all r fair m coming i o all

  marks_moved : (p k : ℕ) → p < r.ports → k < 128 → mark_in (passed_marks (marks_at m.rows p)) k ≡ leb (suc i * L r + (k + 1) * L r) (coming p)
  marks_moved p k b c =
      let e : i * L r + (k + 1 + 1) * L r ≡ suc i * L r + (k + 1) * L r = omega arith in
      mark_passed (marks_at m.rows p) (o.marks_row p b) k
      ∙ ⊎_elim
      (λ (far : 128 ≤ k + 1).
      let s = sizes_in r fair in
      let n = frames_some r.kind in
      let w = marks_enough r.kind 128 r.window (let round = s.round in omega arith) (omega arith) in
      let h = o.ahead p b in
      let k-is : k ≡ 127 = omega arith in
      mark_beyond (marks_at m.rows p) (k + 1) (o.marks_row p b).len far ∙ rw k-is (sym (lt-leb (suc i * L r + 128 * L r) (coming p) (omega arith))))
      (λ (near : k + 1 < 128). o.marks p (k + 1) b near ∙ rw e refl)
      (le_or_lt 128 (k + 1))

  frames_same : frames g.kind ≡ L r
  frames_same = rw o.lined.kind_is refl

  stands_nearer : (p x : ℕ) → p < r.ports → suc i * L r ≤ x → x < coming p → Stands (group_at m'.rows) p (x - suc i * L r) (r.bytes p x) (r.h4 p x) m'.store
  stands_nearer p x b low high =
      let e : x - suc i * L r + L r ≡ x - i * L r = omega arith in
      let f : Stands g p (x - suc i * L r + L r) (r.bytes p x) (r.h4 p x) m.store = rw e (o.stands p x b (omega arith) high) in
      rw t.stores
      (stands_moved g (group_at m'.rows) (L r) p (x - suc i * L r) (r.bytes p x) (r.h4 p x) m.store (rw t.group_is (passed_payload g))
      (rw t.group_is (passed_window g)) (rw (t.group_is, ← frames_same) (passed_origin g wide)) f)

  lined_passed : Lined r m'
  lined_passed =
      let l = o.lined in
      record {
        rows_long = t.rows_long ∙ l.rows_long;
        store_long = rw t.stores l.store_long;
        kind_is = rw t.group_is (passed_kind g ∙ l.kind_is);
        count_is = rw t.group_is (passed_count g ∙ l.count_is);
        payload_is = rw t.group_is (passed_payload g ∙ l.payload_is);
        window_is = rw t.group_is (passed_window g ∙ l.window_is);
        origin_in = rw (t.group_is, ← l.window_is) (origin_within g wide);
      }

  oldest_now : first_tag r.kind (group_at m'.rows).oldest ≡ tag_of r.kind (r.offset + suc i * L r)
  oldest_now =
      let e : r.offset + i * L r + L r ≡ r.offset + suc i * L r = omega arith in
      rw (t.group_is, passed_oldest g, o.lined.kind_is, ← e) (first_after r.kind g.oldest (r.offset + i * L r) o.oldest_small o.oldest)

  pub open_passed : Open r m' coming (suc i)
  open_passed =
      record {
        lined = lined_passed;
        begun = rw t.group_is (passed_begun g ∙ o.begun);
        oldest = oldest_now;
        oldest_small = rw (t.group_is, passed_oldest g, o.lined.kind_is) (epoch_after_lt r.kind g.oldest);
        in_step_lem = o.in_step_lem;
        stepped = λ p b. rw (t.steps p b) (stepped_passed r (coming p) (step_at m.rows p) (first_mark (marks_at m.rows p)) (o.stepped p b));
        live = λ p b. rw (t.gathering p b) (o.live p b);
        ever_since = λ p b. rw (t.steps p b) (step_since (step_at m.rows p) (first_mark (marks_at m.rows p)) ∙ o.ever_since p b);
        joined_at = λ p b. rw (t.steps p b) (step_later (step_at m.rows p) (first_mark (marks_at m.rows p)) ∙ rw (o.joined_at p b) refl);
        behind = λ p b.
            let h = all p b in
            let w : 0 < r.window = rw o.lined.window_is at wide in
            omega arith;
        ahead = λ p b. let h = o.ahead p b in omega arith;
        marks_row = λ p b. rw (t.marks p b) (sixteen_passed (marks_at m.rows p) (o.marks_row p b));
        marks = λ p k b c. rw (t.marks p b) (marks_moved p k b c);
        stands = stands_nearer;
      }

  pub joined_kept : (p : ℕ) → p < r.ports → (step_at m'.rows p).joined ≡ (step_at m.rows p).joined
  joined_kept p b = rw (t.steps p b) (step_joined (step_at m.rows p) (first_mark (marks_at m.rows p)))

  pub whole_now : (p : ℕ) → p < r.ports → (step_at m'.rows p).whole ≡ 1
  whole_now p b = rw (t.steps p b, first_brought p b) (step_whole (step_at m.rows p) true)

  pub gathered_now : (group_at m'.rows).gathered ≡ 1
  gathered_now = rw t.group_is (passed_gathered g)

  -- the packet of the epoch rules from now on
  pub ruling_now : (p : ℕ) → p < r.ports → get_or (packets_at m'.rows p) 1 [] ≡ packet_of r i p
  unfolding packet_of
  ruling_now p b =
      let h = all p b in
      t.ruling p b
      ∙ rw (first_brought p b)
      (packet_stands g p (λ k. r.bytes p (i * L r + k)) (λ k. r.h4 p (i * L r + k)) m.store (λ k c. frame k (rw o.lined.kind_is at c)) ∙ rw o.lined.kind_is refl)
    where
      frame : (k : ℕ) → k < L r → Stands g p k (r.bytes p (i * L r + k)) (r.h4 p (i * L r + k)) m.store
      frame k c =
          let h = all p b in
          let e : i * L r + k - i * L r ≡ k = omega arith in
          rw e at (o.stands p (i * L r + k) b (omega arith) (omega arith))
