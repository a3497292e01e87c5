-- Frames after the beginning: each is answered 0 and leaves the window open, with its port one frame further; the last frame owed of the first epoch gathers it.
-- The idea: what the frame leaves of its own port is known (`Goes` of Arrives.antt), all other ports stay as they are (`by_port`), and something follows for all ports only where it was the last frame owed of the first epoch (`framed_passes`; else `framed_stays`).
use Rattle.std.specs.Prelude.{◌≡◌, ◌⊎◌, ◌≢◌, Bool, [], ◌∷◌, ◌++◌, ℕ, suc, ◌+◌, ◌-◌, ◌*◌, ◌≤◌, ◌<◌, leb, ltb, get_or, length}
use Rattle.std.proofs.Math.Path.{refl, ap}
use Rattle.std.proofs.Common.{sym, ◌∙◌, inl, inr, arith, le-ltb, lt-ltb}
use Rattle.std.proofs.Math.Logic.{⊎_elim}
use Rattle.std.proofs.Math.Bool.{true, false, cond}
use Rattle.std.proofs.lemmas.Bool.{false≢true}
use Rattle.ground.specs.Truth.{eq_or_ne, le_or_lt}
use Rattle.phases.specs.Passing.{passed_of}
use Rattle.phases.specs.Settling.{settled_of}
use Rattle.phases.specs.Theorems.Settled.{settled_gathers, settled_stays}
use Rattle.receiver.specs.Frame.{marks_by, own_tag, port_rows, settled_by, store_by, taken_in}
use Rattle.receiver.specs.Laws.Frames.{frame_gathering, frame_group, frame_marks, frame_marks_other, frame_other, frame_ruling, frame_step, frame_step_other, length_frame}
use Rattle.rows.specs.declared.group.Group.{Group}
use Rattle.rows.specs.declared.step.Step.{Step}
use Rattle.rows.specs.Group.{group_at}
use Rattle.rows.specs.Packets.{marks_at, packets_at}
use Rattle.rows.specs.Port.{port_at}
use Rattle.rows.specs.Rows.{rows_for}
use Rattle.rows.specs.Step.{step_at}
use Rattle.step.specs.Arrival.{flag_of}
use Rattle.step.specs.SentRuns.{start_from}
use Rattle.step.specs.declared.arrival.Taken.{Taken}
use Rattle.store.specs.Frames.{Stands, place_in, stored_at}
use Rattle.store.specs.Laws.Stands.{stands_kept, stands_put}
use Rattle.store.specs.Laws.Stored.{length_stored}
use Rattle.store.specs.Marks.{Sixteen, mark_in}
use Rattle.packet.specs.Kinds.{place_of, tag_of}
use Rattle.packet.specs.Theorems.Tags.{frames_two, tag_before_lem}
use Rattle.link.specs.Road.{L, Road}
use Rattle.link.specs.Proofs.Fair.{Fair}
use Rattle.link.specs.Running.{Moment, framed}
use Rattle.link.specs.Proofs.Standing.{First, Later, Live, Open, Owes, Stepped}
use Rattle.link.specs.Proofs.Transport.Arrives.{Goes, Joins, goes}
use Rattle.link.specs.Proofs.Transport.Call.{framed_is}
use Rattle.link.specs.Proofs.Transport.Due.{AllCome, brought_all, brought_not, not_silent, owes_or_come}
use Rattle.link.specs.Proofs.Transport.Live.{live_taken}
use Rattle.link.specs.Proofs.Transport.Passed.{PassedTo, gathered_now, joined_kept, open_passed, passed_to, ruling_now, whole_now}
use Rattle.link.specs.Proofs.Transport.Served.{Gathered?, Reach, Served}
use Rattle.link.specs.Proofs.Transport.Served.Gathered?.{gathers, waits}

module _ (r : Road) (fair : Fair r) (m : Moment) (coming coming' : ℕ → ℕ) (i : ℕ) (o : Open r m coming i) (p : ℕ) (f : Served r p coming coming') (near : coming p < i * L r + r.window)
    (joins : Joins r m coming i p) where
  abbrev g : Group
  g = group_at m.rows

  abbrev s : Step
  s = step_at m.rows p

  abbrev h : ℕ
  h = r.h4 p (coming p)

  abbrev t : Taken
  t = taken_in m.rows p false h

  b : p < r.ports
  b = f.below

  pub went : Goes r m coming i p t
  went = goes r fair m coming i o p b near joins

  -- before anything follows for all ports
  abbrev pub after : Moment
  after =
      record {
        rows = port_rows r.kind m.rows p t h;
        store = store_by g p t h (r.bytes p (coming p)) m.store;
        answers = m.answers ++ (t.answer ∷ []);
        told = m.told;
      }

  long : rows_for r.ports ≤ length m.rows
  long = let e = o.lined.rows_long in omega arith

  pub group_after : group_at after.rows ≡ g
  group_after = frame_group r.kind m.rows p t h

  pub step_after : step_at after.rows p ≡ t.step
  step_after = frame_step r.kind m.rows p t h r.ports b long

  pub step_others : (q : ℕ) → q ≢ p → step_at after.rows q ≡ step_at m.rows q
  step_others q d = frame_step_other r.kind m.rows p t h q d

  marks_after : marks_at after.rows p ≡ marks_by r.kind (marks_at m.rows p) t
  marks_after = frame_marks r.kind m.rows p t h r.ports b long

  marks_others : (q : ℕ) → q ≢ p → marks_at after.rows q ≡ marks_at m.rows q
  marks_others q d = frame_marks_other r.kind m.rows p t h q d

  pub ruling_after : (q : ℕ) → get_or (packets_at after.rows q) 1 [] ≡ get_or (packets_at m.rows q) 1 []
  unfolding port_at
  ruling_after q = frame_ruling r.kind m.rows p t h r.ports b long q

  -- of port p and of each other
  module _ (P : ℕ → Type 0) (here : P p) (there : (q : ℕ) → q < r.ports → q ≢ p → P q) where
    pub by_port : (q : ℕ) → q < r.ports → P q
    by_port q c = ⊎_elim (λ (e : q ≡ p). rw e here) (λ (d : q ≢ p). there q c d) (eq_or_ne q p)

  stepped_after : (q : ℕ) → q < r.ports → Stepped r (coming' q) (step_at after.rows q)
  stepped_after =
      by_port (λ q. Stepped r (coming' q) (step_at after.rows q)) (rw (step_after, f.next) went.stepped)
      (λ q c d. rw (step_others q d, f.others q d) (o.stepped q c))

  live_after : (q : ℕ) → q < r.ports → Live r q (coming' q) (port_at after.rows q).gathering
  live_after =
      by_port (λ q. Live r q (coming' q) (port_at after.rows q).gathering)
      (rw (frame_gathering r.kind m.rows p t h r.ports b long, f.next)
      (live_taken r fair p (coming p) (port_at m.rows p).gathering t went.counted own (o.live p b)))
      (λ q c d. rw (frame_other r.kind m.rows p t h q d, f.others q d) (o.live q c))
    where
      own : place_of r.kind (own_tag r.kind (taken_in m.rows p false (r.h4 p (coming p)))) ≡ place_of r.kind (tag_of r.kind (r.offset + coming p))
      own =
          let e : r.offset + (coming p + 1) ≡ r.offset + coming p + 1 = omega arith in
          rw (went.stepped.next, e, tag_before_lem r.kind (r.offset + coming p)) refl

  -- the store: a frame from the window's first on is put in
  store_kept : i * L r ≤ coming p → after.store ≡ stored_at m.store (place_in g p (coming p - i * L r)) (r.bytes p (coming p)) h
  unfolding store_by
  store_kept low = rw (went.kept low, went.place low) refl

  store_dropped : coming p < i * L r → after.store ≡ m.store
  unfolding store_by
  store_dropped early = rw (went.dropped early) refl

  store_after_lem : length after.store ≡ length m.store
  store_after_lem =
      ⊎_elim (λ (low : i * L r ≤ coming p). rw (store_kept low) (length_stored m.store (place_in g p (coming p - i * L r)) (r.bytes p (coming p)) h))
      (λ (early : coming p < i * L r). rw (store_dropped early) refl)
      (le_or_lt (i * L r) (coming p))

  bytes_long : length (r.bytes p (coming p)) ≡ g.payload
  bytes_long = fair.long p (coming p) b ∙ sym o.lined.payload_is

  stands_new : i * L r ≤ coming p → Stands g p (coming p - i * L r) (r.bytes p (coming p)) h (stored_at m.store (place_in g p (coming p - i * L r)) (r.bytes p (coming p)) h)
  stands_new low =
      let wide : 0 < g.window = rw o.lined.window_is (omega arith) in
      let l : length m.store ≡ r.ports * g.window * (g.payload + 1) = rw (o.lined.payload_is, o.lined.window_is) o.lined.store_long in
      stands_put g r.ports p (coming p - i * L r) (r.bytes p (coming p)) h m.store wide b l bytes_long

  stands_old : (q x : ℕ) → q < r.ports → i * L r ≤ coming p → i * L r ≤ x → x < coming q → (q ≡ p → x ≢ coming p)
      → Stands g q (x - i * L r) (r.bytes q x) (r.h4 q x) (stored_at m.store (place_in g p (coming p - i * L r)) (r.bytes p (coming p)) h)
  stands_old q x c joined low high differ =
      let w = o.ahead q c in
      let hx : x - i * L r < g.window = rw o.lined.window_is (omega arith) in
      let hp : coming p - i * L r < g.window = rw o.lined.window_is (omega arith) in
      stands_kept g q p (x - i * L r) (coming p - i * L r) (r.bytes q x) (r.bytes p (coming p)) (r.h4 q x) h m.store hx hp
      (λ (e : q ≡ p) (d : x - i * L r ≡ coming p - i * L r). differ e (omega arith)) bytes_long (o.stands q x c low high)

  stands_kept_all : (q x : ℕ) → q < r.ports → i * L r ≤ coming p → i * L r ≤ x → x < coming' q
      → Stands g q (x - i * L r) (r.bytes q x) (r.h4 q x) (stored_at m.store (place_in g p (coming p - i * L r)) (r.bytes p (coming p)) h)
  stands_kept_all q x c joined low high =
      ⊎_elim
      (λ (e : q ≡ p).
      let top : coming' q ≡ coming p + 1 = rw e f.next in
      let old : coming q ≡ coming p = ap coming e in
      ⊎_elim (λ (same : x ≡ coming p). rw (e, same) (stands_new joined))
      (λ (d : x ≢ coming p). stands_old q x c joined low (omega arith) (λ z. d))
      (eq_or_ne x (coming p)))
      (λ (d : q ≢ p). stands_old q x c joined low (rw (f.others q d) at high) (λ z. absurd (d z)))
      (eq_or_ne q p)

  stands_after : (q x : ℕ) → q < r.ports → i * L r ≤ x → x < coming' q → Stands (group_at after.rows) q (x - i * L r) (r.bytes q x) (r.h4 q x) after.store
  stands_after q x c low high =
      rw group_after
      (⊎_elim
      (λ (joined : i * L r ≤ coming p). rw (store_kept joined) (stands_kept_all q x c joined low high))
      (λ (early : coming p < i * L r).
      rw (store_dropped early)
      (⊎_elim
      (λ (e : q ≡ p). let top : coming' q ≡ coming p + 1 = rw e f.next in absurd (omega arith))
      (λ (d : q ≢ p). o.stands q x c low (rw (f.others q d) at high))
      (eq_or_ne q p)))
      (le_or_lt (i * L r) (coming p)))

  pub open_frame : Open r after coming' i
  open_frame =
      record {
        lined = record {
          rows_long = length_frame r.kind m.rows p t h ∙ o.lined.rows_long;
          store_long = store_after_lem ∙ o.lined.store_long;
          kind_is = rw group_after o.lined.kind_is;
          count_is = rw group_after o.lined.count_is;
          payload_is = rw group_after o.lined.payload_is;
          window_is = rw group_after o.lined.window_is;
          origin_in = rw group_after o.lined.origin_in;
        };
        begun = rw group_after o.begun;
        oldest = rw group_after o.oldest;
        oldest_small = rw group_after o.oldest_small;
        in_step_lem = by_port (λ q. start_from r.kind r.offset (r.first q) + L r * 2 ≤ coming' q) (let e = f.next in let a = o.in_step_lem p b in omega arith) (λ q c d. rw (f.others q d) (o.in_step_lem q c));
        stepped = stepped_after;
        live = live_after;
        ever_since = by_port (λ q. (step_at after.rows q).ever_since ≡ 1) (rw step_after (went.ever_since ∙ o.ever_since p b)) (λ q c d. rw (step_others q d) (o.ever_since q c));
        joined_at = by_port (λ q. (step_at after.rows q).joined_at ≡ 0) (rw step_after went.joined_at) (λ q c d. rw (step_others q d) (o.joined_at q c));
        behind = by_port (λ q. i * L r < coming' q + r.window) (let e = f.next in let a = o.behind p b in omega arith) (λ q c d. rw (f.others q d) (o.behind q c));
        ahead = by_port (λ q. coming' q ≤ i * L r + r.window) (let e = f.next in omega arith) (λ q c d. rw (f.others q d) (o.ahead q c));
        marks_row = by_port (λ q. Sixteen (marks_at after.rows q)) (rw marks_after went.marks_row) (λ q c d. rw (marks_others q d) (o.marks_row q c));
        marks = λ q k c e.
            by_port (λ n. mark_in (marks_at after.rows n) k ≡ leb (i * L r + (k + 1) * L r) (coming' n)) (rw (marks_after, f.next) (went.marks k e))
            (λ n a d. rw (marks_others n d, f.others n d) (o.marks n k a e)) q c;
        stands = stands_after;
      }

  -- it is not settled away where the window stays open
  unsettled : Owes r coming' i ⊎ (flag_of g.gathered ≡ true) → settled_by t.settles r.ports after.store after.rows ≡ after.rows
  unfolding settled_by
  unsettled w =
      ⊎_elim
      (λ (v : Owes r coming' i).
      let stays : settled_of r.ports after.store after.rows ≡ after.rows = settled_stays r.ports after.store after.rows (record {
        heard = λ x. not_silent r fair after coming' i open_frame;
        gathers = λ x y. brought_not r fair after coming' i open_frame v;
        waits = λ x. absurd (false≢true (sym x ∙ rw open_frame.begun refl));
      }) in
      go t.settles stays)
      (λ (v : flag_of g.gathered ≡ true). rw (went.settles_not v) refl)
      w
    where
      go : (c : Bool) → settled_of r.ports after.store after.rows ≡ after.rows → cond c (settled_of r.ports after.store after.rows) after.rows ≡ after.rows
      go true e = e
      go false e = refl

  unrefused : t.answer ≢ 11
  unrefused e = let z = went.answer in omega arith

  pub framed_stays : Owes r coming' i ⊎ (flag_of g.gathered ≡ true) → framed r p (coming p) m ≡ after
  framed_stays w = framed_is r fair m o.lined p (coming p) b unrefused ∙ rw (unsettled w) refl

  pub framed_answers : (framed r p (coming p) m).answers ≡ m.answers ++ (0 ∷ [])
  framed_answers = ap (λ (n : Moment). n.answers) (framed_is r fair m o.lined p (coming p) b unrefused) ∙ rw went.answer refl

  pub framed_store_lem : (framed r p (coming p) m).store ≡ after.store
  framed_store_lem = ap (λ (n : Moment). n.store) (framed_is r fair m o.lined p (coming p) b unrefused)

  pub framed_told : (framed r p (coming p) m).told ≡ m.told
  framed_told = ap (λ (n : Moment). n.told) (framed_is r fair m o.lined p (coming p) b unrefused)

  -- the last frame owed of the first epoch
  pub framed_passes : flag_of g.gathered ≡ false → coming p + 1 ≡ i * L r + L r → AllCome r coming' i
      → (framed r p (coming p) m).rows ≡ passed_of (group_at after.rows) after.store r.ports after.rows
  unfolding settled_by
  framed_passes e last all =
      ap (λ (n : Moment). n.rows) (framed_is r fair m o.lined p (coming p) b unrefused)
      ∙ ap (λ (c : Bool). settled_by c r.ports after.store after.rows) (went.settles e last)
      ∙ settled_gathers r.ports after.store after.rows (rw open_frame.begun refl) (not_silent r fair after coming' i open_frame) (rw group_after e)
      (brought_all r fair after coming' i open_frame all)

-- a port that owes keeps all within reach of it
owed_near : (r : Road) (coming : ℕ → ℕ) (i p : ℕ) → Owes r coming i → Reach r p coming → coming p < i * L r + r.window
owed_near r coming i p w reach =
    let a = reach w.port w.below in
    let c = w.owes in
    omega arith

-- While the first epoch is gathered.
module _ (r : Road) (fair : Fair r) (m : Moment) (p i : ℕ) (coming coming' : ℕ → ℕ) (f : Served r p coming coming') (reach : Reach r p coming) (o : First r m coming i) where
  near_first : coming p < i * L r + r.window
  near_first = owed_near r coming i p o.owes reach

  joins_first : Joins r m coming i p
  joins_first =
      record {
        is =
            ⊎_elim (λ (early : coming p ≤ i * L r). inr (o.joined p f.below ∙ rw (le-ltb (i * L r) (coming p) early) refl, early))
            (λ (late : i * L r < coming p). inl (o.joined p f.below ∙ rw (lt-ltb (i * L r) (coming p) late) refl, omega arith))
            (le_or_lt (coming p) (i * L r));
      }

  abbrev next_first : Moment
  next_first = after r fair m coming coming' i o.open_at p f near_first joins_first

  open_first : Open r next_first coming' i
  open_first = open_frame r fair m coming coming' i o.open_at p f near_first joins_first

  joined_first : (q : ℕ) → q < r.ports → (step_at next_first.rows q).joined ≡ cond (ltb (i * L r) (coming' q)) 1 0
  joined_first =
      by_port r fair m coming coming' i o.open_at p f near_first joins_first (λ q. (step_at next_first.rows q).joined ≡ cond (ltb (i * L r) (coming' q)) 1 0)
      (rw (step_after r fair m coming coming' i o.open_at p f near_first joins_first, f.next) (went r fair m coming coming' i o.open_at p f near_first joins_first).joined)
      (λ q c d. rw (step_others r fair m coming coming' i o.open_at p f near_first joins_first q d, f.others q d) (o.joined q c))

  pub first_says : (framed r p (coming p) m).answers ≡ m.answers ++ (0 ∷ [])
  first_says = framed_answers r fair m coming coming' i o.open_at p f near_first joins_first

  first_stays : Owes r coming' i → First r (framed r p (coming p) m) coming' i
  first_stays w =
      rw (framed_stays r fair m coming coming' i o.open_at p f near_first joins_first (inl w))
      (record {
        open_at = open_first;
        gathered = rw (group_after r fair m coming coming' i o.open_at p f near_first joins_first) o.gathered;
        joined = joined_first;
        owes = w;
        told = o.told;
      })

  -- the frame was the last one owed
  module _ (all : AllCome r coming' i) where
    last_one : coming p + 1 ≡ i * L r + L r
    last_one =
        let w = o.owes in
        let e = f.next in
        let a = all p f.below in
        let c = all w.port w.below in
        let short = w.owes in
        ⊎_elim (λ (s : w.port ≡ p). let n : coming w.port ≡ coming p = ap coming s in omega arith)
        (λ (d : w.port ≢ p). let n = f.others w.port d in absurd (omega arith))
        (eq_or_ne w.port p)

    passes : PassedTo r next_first (framed r p (coming p) m)
    passes =
        passed_to r next_first (framed r p (coming p) m) open_first.lined.rows_long
        (framed_passes r fair m coming coming' i o.open_at p f near_first joins_first (rw o.gathered refl) last_one all)
        (framed_store_lem r fair m coming coming' i o.open_at p f near_first joins_first)

    owes_next : Owes r coming' (suc i)
    owes_next =
        let n = frames_two r.kind in
        let e = f.next in
        let l = last_one in
        record { port = p; below = f.below; owes = omega arith }

    first_gathers : Later r (framed r p (coming p) m) coming' i i
    first_gathers =
        let then = framed r p (coming p) m in
        let none : i - i ≡ 0 = omega arith in
        record {
          open_at = open_passed r fair next_first then coming' i open_first passes all;
          gathered = gathered_now r fair next_first then coming' i open_first passes all;
          come = omega arith;
          within = λ q c. let a = all q c in omega arith;
          joined = λ q c.
              let a = all q c in
              let n = frames_two r.kind in
              joined_kept r fair next_first then coming' i open_first passes all q c ∙ joined_first q c ∙ rw (lt-ltb (i * L r) (coming' q) (omega arith)) refl;
          whole = whole_now r fair next_first then coming' i open_first passes all;
          ruling = ruling_now r fair next_first then coming' i open_first passes all;
          told = framed_told r fair m coming coming' i o.open_at p f near_first joins_first ∙ o.told ∙ rw none refl;
        }

  pub first_frame : Gathered? r (framed r p (coming p) m) coming' i
  first_frame =
      ⊎_elim (λ (w : Owes r coming' i). waits (first_stays w)) (λ (all : AllCome r coming' i). gathers (first_gathers all) (owes_next all)) (owes_or_come r coming' i)

-- While reports are made.
module _ (r : Road) (fair : Fair r) (m : Moment) (p j i : ℕ) (coming coming' : ℕ → ℕ) (f : Served r p coming coming') (reach : Reach r p coming) (o : Later r m coming j i) (w : Owes r coming (suc i)) where
  near_later : coming p < suc i * L r + r.window
  near_later = owed_near r coming (suc i) p w reach

  joins_later : Joins r m coming (suc i) p
  joins_later = record { is = inl (o.joined p f.below, o.within p f.below) }

  abbrev next_later : Moment
  next_later = after r fair m coming coming' (suc i) o.open_at p f near_later joins_later

  pub later_says : (framed r p (coming p) m).answers ≡ m.answers ++ (0 ∷ [])
  later_says = framed_answers r fair m coming coming' (suc i) o.open_at p f near_later joins_later

  step_later : step_at next_later.rows p ≡ (taken_in m.rows p false (r.h4 p (coming p))).step
  step_later = step_after r fair m coming coming' (suc i) o.open_at p f near_later joins_later

  others_later : (q : ℕ) → q ≢ p → step_at next_later.rows q ≡ step_at m.rows q
  others_later = step_others r fair m coming coming' (suc i) o.open_at p f near_later joins_later

  went_later : Goes r m coming (suc i) p (taken_in m.rows p false (r.h4 p (coming p)))
  went_later = went r fair m coming coming' (suc i) o.open_at p f near_later joins_later

  later_on : Later r next_later coming' j i
  later_on =
      record {
        open_at = open_frame r fair m coming coming' (suc i) o.open_at p f near_later joins_later;
        gathered = rw (group_after r fair m coming coming' (suc i) o.open_at p f near_later joins_later) o.gathered;
        come = o.come;
        within =
            by_port r fair m coming coming' (suc i) o.open_at p f near_later joins_later (λ q. suc i * L r ≤ coming' q)
            (let e = f.next in let a = o.within p f.below in omega arith) (λ q c d. rw (f.others q d) (o.within q c));
        joined =
            by_port r fair m coming coming' (suc i) o.open_at p f near_later joins_later (λ q. (step_at next_later.rows q).joined ≡ 1)
            (let a = o.within p f.below in rw step_later (went_later.joined ∙ rw (lt-ltb (suc i * L r) (coming p + 1) (omega arith)) refl))
            (λ q c d. rw (others_later q d) (o.joined q c));
        whole =
            by_port r fair m coming coming' (suc i) o.open_at p f near_later joins_later (λ q. (step_at next_later.rows q).whole ≡ 1)
            (rw step_later (went_later.whole ∙ o.whole p f.below)) (λ q c d. rw (others_later q d) (o.whole q c));
        ruling = λ q c. ruling_after r fair m coming coming' (suc i) o.open_at p f near_later joins_later q ∙ o.ruling q c;
        told = o.told;
      }

  pub later_frame : Later r (framed r p (coming p) m) coming' j i
  later_frame = rw (framed_stays r fair m coming coming' (suc i) o.open_at p f near_later joins_later (inr (rw o.gathered refl))) later_on
