-- What is heard at a moment at which reports are made: the packets of the epoch last gathered or reported rule, so that one that came as sent is heard as it was sent, and a changed one is not.
use Rattle.std.specs.Prelude.{◌≡◌, true, false, cond, eqb, length}
use Rattle.std.proofs.Math.Path.{refl, ap, ap₂}
use Rattle.std.proofs.Common.{subst, ◌∙◌, ⊎_elim, arith}
use Rattle.std.proofs.Math.Bool.{Bool, or-true}
use mathlib.Core.List.{List, []}
use Prim.Native.Nat.{ℕ, suc, ◌+◌, ◌-◌, ◌/◌, ◌≤◌, ◌<◌}
use Rattle.packet.specs.declared.ruling.Ruling.{Ruling}
use borrow.Author.Tests.{eq-eqb}
use Rattle.ground.specs.Counting.Laws.Tests.{none_at, some_at, some_none, some_one}
use Rattle.ground.specs.Counting.Words.{some}
use Rattle.ground.specs.Finite.{same_bytes_lem}
use Rattle.ground.specs.Table.{length_tabulate}
use Rattle.ground.specs.Truth.{clash}
use Rattle.packet.specs.Symbols.{packet_row}
use Rattle.packet.specs.Theorems.Tags.{epoch_before}
use Rattle.receiver.specs.declared.seeing.Carried.{Carried}
use Rattle.receiver.specs.Heard.{good_at, heard_answer, heard_fit, heard_of, heard_out, lowest, said_at, said_by, silence}
use Rattle.receiver.specs.Laws.Heard.{lowest_holds}
use Rattle.receiver.specs.Lengths.{rows_fit}
use Rattle.receiver.specs.Report.{ruling_epoch, seen_of}
use Rattle.receiver.specs.Seen.{carried_at, carried_by}
use Rattle.rows.specs.declared.group.Group.{Group}
use Rattle.rows.specs.Group.{group_at}
use Rattle.rows.specs.Rows.{rows_for}
use Rattle.step.specs.Carried.{reading_in}
use Rattle.step.specs.OwnCount.{own_ruling}
use Rattle.link.specs.Demand3.{Reported, Started, Time, own_run, standing}
use Rattle.link.specs.Heard.{Hears, SaysBack, carried_in, expected_heard, some_as_sent}
use Rattle.link.specs.Link.{AssumedOver, Damaged, Link, epoch_frames, expected, kind_of, road_of, same_bytes, sent_to}
use Rattle.link.specs.Moments.{coming}
use Rattle.link.specs.Proofs.Alike.{one_beginning}
use Rattle.link.specs.Proofs.Contents.{number_of, packet_of, report_after}
use Rattle.link.specs.Proofs.Fair.{Fair}
use Rattle.link.specs.Proofs.Judged.Fairness.{fair}
use Rattle.link.specs.Proofs.Judged.Reports.{same_self}
use Rattle.link.specs.Proofs.Judged.Seen.{number_of_lem, packet_of_lem}
use Rattle.link.specs.Proofs.Over.{from_start}
use Rattle.link.specs.Proofs.Standing.{Later}
use Rattle.link.specs.Proofs.Transport.Call.{ports_are}
use Rattle.link.specs.Proofs.Transport.EachCall.{calls_do}
use Rattle.link.specs.Proofs.Transport.Times.{Phase, phase}
use Rattle.link.specs.Proofs.Transport.Times.Phase.{before, first, later}
use Rattle.link.specs.Road.{Road}
use Rattle.link.specs.Running.{Moment}
use Rattle.link.specs.Sending.{epoch_number}

said_same : (e d m n a b : ℕ) → e ≡ d → m ≡ n → a ≡ b → said_by e m a ≡ said_by d n b
said_same e d m n a b p q r = rw (p, q, r) refl

-- On a road: the packets that rule are those that came in epoch i.
module _ (r : Road) (f : Fair r) (m : Moment) (coming : ℕ → ℕ) (j i : ℕ) (o : Later r m coming j i) where
  abbrev g : Group
  g = group_at m.rows

  ruled_by_lem : ruling_epoch g ≡ number_of r i
  unfolding ruling_epoch number_of
  ruled_by_lem = rw (o.open_at.lined.kind_is, o.open_at.oldest) (epoch_before r.kind r.offset i f.starts)

  whole_now : (p : ℕ) → p < r.ports → (seen_of g m.rows p).whole ≡ true
  unfolding seen_of
  whole_now p b = rw (o.whole p b) refl

  good_now : (p : ℕ) → p < r.ports → (seen_of g m.rows p).good ≡ (own_ruling r.kind (number_of r i) (packet_of r i p)).good
  unfolding seen_of
  good_now p b = rw (ruled_by_lem, o.open_at.lined.kind_is, o.ruling p b) refl

-- Over a link.
module _ (k : Link) (a : AssumedOver k) (mst ack : ℕ → ℕ) (says : SaysBack k.sending mst ack) (m : Moment) (coming : ℕ → ℕ) (j i : ℕ) (o : Later (road_of k) m coming j i) where
  abbrev h : Group
  h = group_at m.rows

  abbrev epoch : ℕ
  epoch = epoch_number (kind_of k) k.sending.first i

  good_as : (p : ℕ) → p < k.ports → good_at h m.rows p ≡ (own_ruling (kind_of k) epoch (packet_row (kind_of k) (k.came i p))).good
  unfolding road_of
  good_as p b =
      rw (whole_now (road_of k) (fair k a) m coming j i o p b)
      (good_now (road_of k) (fair k a) m coming j i o p b ∙ ap₂ (λ (e : ℕ) (row : List ℕ). (own_ruling (kind_of k) e row).good) (number_of_lem k i) (packet_of_lem k i p))

  good_sent : (p : ℕ) → p < k.ports → k.came i p ≡ sent_to k i p → good_at h m.rows p ≡ true
  good_sent p b e =
      good_as p b
      ∙ ap (λ (l : List ℕ). (own_ruling (kind_of k) epoch (packet_row (kind_of k) l)).good) e
      ∙ ap (λ (q : Ruling). q.good) (a.lawful.reads i (k.pairing p) (a.paired.below p b))

  good_damaged : (p : ℕ) → p < k.ports → Damaged (kind_of k) k.sending.changes (sent_to k i p) (k.came i p) → good_at h m.rows p ≡ false
  good_damaged p b d = good_as p b ∙ a.lawful.refused i (k.pairing p) (k.came i p) (a.paired.below p b) d.least d.most

  carried_now : (p : ℕ) → p < k.ports → k.came i p ≡ sent_to k i p → carried_at h m.rows p ≡ carried_in (kind_of k) (sent_to k i p)
  unfolding carried_at road_of
  carried_now p b e =
      ap₂ (λ (kind : ℕ) (row : List ℕ). carried_by (reading_in kind row)) o.open_at.lined.kind_is (o.ruling p b ∙ packet_of_lem k i p ∙ ap (packet_row (kind_of k)) e)

  said_sent : (p : ℕ) → p < k.ports → k.came i p ≡ sent_to k i p → said_at h m.rows p ≡ said_by epoch (mst i) (ack i)
  unfolding said_at
  said_sent p b e =
      let slot : k.pairing p < k.sending.slots = a.paired.below p b in
      ap (λ (c : Carried). said_by c.epoch c.mst c.rs_ack) (carried_now p b e)
      ∙ said_same _ epoch _ (mst i) _ (ack i) (says.numbered i (k.pairing p) slot) (says.states i (k.pairing p) slot) (says.turns i (k.pairing p) slot)

  -- a good packet came as sent
  sent_good : (p : ℕ) → p < k.ports → good_at h m.rows p ≡ true → k.came i p ≡ sent_to k i p
  sent_good p b t =
      ⊎_elim (λ (e : k.came i p ≡ sent_to k i p). e)
      (λ (d : Damaged (kind_of k) k.sending.changes (sent_to k i p) (k.came i p)). absurd (clash (good_at h m.rows p) t (good_damaged p b d)))
      (a.lines.arrived i p b)

  heard_is : heard_of h m.rows k.ports ≡ expected_heard k mst ack i
  unfolding expected_heard some_as_sent heard_of
  heard_is = go (some k.ports as_sent) refl
    where
      as_sent : ℕ → Bool
      as_sent p = same_bytes (k.came i p) (sent_to k i p)

      go : (b : Bool) → some k.ports as_sent ≡ b
          → cond (some k.ports (good_at h m.rows)) (said_at h m.rows (lowest k.ports (good_at h m.rows))) silence ≡ cond b (said_by epoch (mst i) (ack i)) silence
      go true e =
          let q = some_one k.ports as_sent e in
          let t : some k.ports (good_at h m.rows) ≡ true =
          some_at k.ports (good_at h m.rows) q.at q.below (good_sent q.at q.below (same_bytes_lem (k.came i q.at) (sent_to k i q.at) q.holds)) in
          let l = lowest_holds k.ports (good_at h m.rows) t in
          rw t (said_sent (lowest k.ports (good_at h m.rows)) l.below (sent_good (lowest k.ports (good_at h m.rows)) l.below l.holds))
      go false e = rw (some_none k.ports (good_at h m.rows) none) refl
        where
          none : (p : ℕ) → p < k.ports → good_at h m.rows p ≡ false
          none p b =
              ⊎_elim
              (λ (w : k.came i p ≡ sent_to k i p). absurd (clash (as_sent p) (rw w (same_self (sent_to k i p))) (none_at k.ports as_sent e p b)))
              (λ (d : Damaged (kind_of k) k.sending.changes (sent_to k i p) (k.came i p)). good_damaged p b d)
              (a.lines.arrived i p b)

  fits : (out : List ℕ) → length out ≡ 4 → heard_fit k.ports (length m.rows) (length out) ≡ true
  unfolding heard_fit rows_fit road_of
  fits out e = rw (eq-eqb (length m.rows) (rows_for k.ports) o.open_at.lined.rows_long, eq-eqb (length out) 4 e, or-true (eqb k.ports 0)) refl

  pub hears_now : Hears m (expected_heard k mst ack i)
  unfolding heard_answer heard_out road_of
  hears_now =
      record {
        answer = λ out e. rw (ports_are (road_of k) (fair k a) m o.open_at.lined, fits out e) refl;
        bytes = λ out e. rw (ports_are (road_of k) (fair k a) m o.open_at.lined, fits out e) heard_is;
      }

-- At every moment at which a report has been made.
pub heard_over : (k : Link) → AssumedOver k → (mst ack : ℕ → ℕ) → SaysBack k.sending mst ack → (m₀ : Moment) → Started k m₀ → (at : Time k) (o : Reported k (own_run k m₀) at) → 0 < o.many
    → Hears (standing k (own_run k m₀) at) (expected_heard k mst ack (suc (o.F / epoch_frames k) + o.many))
unfolding road_of
heard_over k a mst ack says m₀ s at o some = go (phase (road_of k) m₀ (fair k a) (calls_do (road_of k) (fair k a)) (from_start k a m₀ s) at.t at.done at.rest at.is_order)
  where
    m : Moment
    m = standing k (own_run k m₀) at

    count_is : length m.told ≡ o.many
    count_is = ap length o.are ∙ length_tabulate o.many (λ j. expected k (suc (o.F / epoch_frames k) + j) (k.output j))

    none : m.told ≡ [] → ⊥
    none e = let z : length m.told ≡ 0 = ap length e in let c = count_is in omega arith

    go : Phase (road_of k) m₀ at.t at.done (standing k (own_run k m₀) at) (coming (road_of k) at.t at.rest) → Hears m (expected_heard k mst ack (suc (o.F / epoch_frames k) + o.many))
    go (before b un) = absurd (none b.told)
    go (first F b since c) = absurd (none c.told)
    go (later F i b since c w) =
        let same : F ≡ o.F = one_beginning k (own_run k m₀) F o.F b o.beginning in
        let many : length m.told ≡ i - suc (F / epoch_frames k) = ap length c.told ∙ length_tabulate (i - suc (F / epoch_frames k)) (λ j. report_after (road_of k) (suc (F / epoch_frames k) + j) (k.output j)) in
        let here : i ≡ suc (o.F / epoch_frames k) + o.many = last (F / epoch_frames k) (o.F / epoch_frames k) i (ap (λ (n : ℕ). n / epoch_frames k) same) c.come many in
        subst (λ (n : ℕ). Hears m (expected_heard k mst ack n)) here (hears_now k a mst ack says m (coming (road_of k) at.t at.rest) (suc (F / epoch_frames k)) i c)
      where
        last : (e d i : ℕ) → e ≡ d → suc e ≤ i → length m.told ≡ i - suc e → i ≡ suc d + o.many
        last e d i q l n = let c = count_is in omega arith
