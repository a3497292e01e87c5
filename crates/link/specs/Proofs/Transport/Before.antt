-- Frames before the beginning, and the beginning itself: after each frame receiving has not begun yet, or the first epoch to start after the foremost position is being gathered (`before_frame`).
-- The idea: what the step rule knows of a port goes by the port's position alone (`Heard`), so that the receiver's tests are tests of positions. Positions no further apart than the spread lie as their tags do: the foremost tag is that of the foremost position.
use Rattle.std.specs.Prelude.{◌≡◌, ◌≢◌, Bool, true, false, cond, ◌||◌, List, [], ◌∷◌, ◌++◌, ℕ, zero, suc, ◌+◌, ◌-◌, ◌*◌, ◌/◌, ◌≤◌, ◌<◌, leb, length, replicate}
use Rattle.std.proofs.Math.Path.{refl, sym, ap}
use Rattle.std.proofs.Common.{◌∙◌, true≢false}
use Rattle.std.proofs.Math.Logic.{⊎_elim}
use native.Mathlib.Omega.{arith}
use borrow.Author.Tests.{le-ltb, leb-true, lt-leb, lt-ltb, ne_eqb}
use Rattle.ground.specs.Truth.{and_right, eq_or_ne, le_or_lt, or_cases}
use Rattle.packet.specs.Kinds.{distance_of, epoch_after, epoch_of, first_tag, frames, place_of, tag_before, tag_of, tags}
use Rattle.packet.specs.Laws.Epochs.{frames_many, start_after_le, start_after_lt}
use Rattle.packet.specs.Theorems.Tags.{behind_far, distance_of_lem, epoch_after_lt, epoch_after_tag, frames_some, frames_two, tag_before_lem}
use Rattle.phases.specs.Beginning.{Arc, begins, foremost, latest, ready}
use Rattle.phases.specs.Laws.Cleared.{begun_group, begun_marks_at, begun_port, begun_step_at}
use Rattle.phases.specs.Laws.Lengths.{length_begun}
use Rattle.phases.specs.Passing.{group_to}
use Rattle.phases.specs.Settling.{begun_of, cleared_step, settled_of}
use Rattle.phases.specs.Theorems.Arc.{complete, sound}
use Rattle.phases.specs.Theorems.Settled.{settled_begins, settled_stays}
use Rattle.receiver.specs.Frame.{odd_in, port_rows, settled_by, store_by, taken_in}
use Rattle.receiver.specs.Laws.Frames.{frame_gathering, frame_group, frame_other, frame_step, frame_step_other, length_frame}
use Rattle.receiver.specs.Laws.Sizes.{Sizes}
use Rattle.rows.specs.declared.group.Group.{Group}
use Rattle.rows.specs.declared.step.Step.{Step}
use Rattle.rows.specs.Group.{group_at}
use Rattle.rows.specs.Packets.{marks_at}
use Rattle.rows.specs.Port.{Port, port_at}
use Rattle.rows.specs.Rows.{rows_for}
use Rattle.rows.specs.Step.{step_at}
use Rattle.step.specs.Arrival.{frame_dropped, counts_on, flag_of, in_step, taken_of, is_kept}
use Rattle.step.specs.Sent.{SentWith}
use Rattle.step.specs.declared.arrival.Taken.{Taken}
use Rattle.step.specs.Laws.Arrival.{ran_on, stepped, taken_dropped, taken_counts}
use Rattle.step.specs.Run.{in_step_at}
use Rattle.store.specs.Laws.Marks.{mark_none, sixteen_none}
use Rattle.link.specs.Moments.{Foremost}
use Rattle.link.specs.Road.{L, Road}
use Rattle.link.specs.Proofs.Fair.{Fair, sizes_in}
use Rattle.link.specs.Running.{Moment, framed}
use Rattle.link.specs.Proofs.Standing.{Before, First, Heard, Lined, Live, Open, Stepped}
use Rattle.link.specs.Proofs.Transport.Call.{framed_is}
use Rattle.link.specs.Proofs.Transport.Heard.{from_first, heard_dropped, heard_counts, heard_in_step, heard_next, heard_short, heard_stepped, heard_test, run_own, run_some, run_from}
use Rattle.link.specs.Proofs.Transport.Live.{after_long, even_now, live_early, live_taken, row_after}
use Rattle.link.specs.Proofs.Transport.Served.{Apart, Begun?, Served}
use Rattle.link.specs.Proofs.Transport.Served.Begun?.{comes, stays}

-- one of the first n numbers at which f is greatest
record Greatest (f : ℕ → ℕ) (n : ℕ) : Type 0 where
  at : ℕ
  below : at < n
  most : (q : ℕ) → q < n → f q ≤ f at

greatest_of : (f : ℕ → ℕ) (n : ℕ) → Greatest f (suc n)
greatest_of f zero = record { at = 0; below = omega arith; most = λ q b. (let z : q ≡ 0 = omega arith in rw z (omega arith)) }
greatest_of f (suc n) =
    let o = greatest_of f n in
    let inside = o.below in
    ⊎_elim
    (λ (h : f (suc n) ≤ f o.at).
    record {
      at = o.at;
      below = omega arith;
      most = λ q b. ⊎_elim (λ (e : q ≡ suc n). rw e h) (λ (d : q ≢ suc n). o.most q (omega arith)) (eq_or_ne q (suc n));
    })
    (λ (h : f o.at < f (suc n)).
    record {
      at = suc n;
      below = omega arith;
      most = λ q b. ⊎_elim (λ (e : q ≡ suc n). rw e (omega arith)) (λ (d : q ≢ suc n). (let w = o.most q (omega arith) in omega arith)) (eq_or_ne q (suc n));
    })
    (le_or_lt (f (suc n)) (f o.at))

-- Latest positions of two ports in step, and their tags' distance.

near_of : (kind c x y w : ℕ) → 1 ≤ y → y ≤ x → x + frames kind ≤ y + w → w * 2 ≤ tags kind
    → distance_of kind (tag_of kind (c + (x - 1))) (tag_of kind (c + (y - 1))) + frames kind ≤ w
near_of kind c x y w some low near round =
    let n = frames_some kind in
    let e : distance_of kind (tag_of kind (c + (x - 1))) (tag_of kind (c + (y - 1))) ≡ c + (x - 1) - (c + (y - 1)) =
    distance_of_lem kind (c + (x - 1)) (c + (y - 1)) (omega arith) (omega arith) in
    omega arith

near_back : (kind c x y w : ℕ) → 1 ≤ y → 1 ≤ x → x + frames kind ≤ y + w + 1 → y + frames kind ≤ x + w + 1 → w * 2 ≤ tags kind
    → distance_of kind (tag_of kind (c + (x - 1))) (tag_of kind (c + (y - 1))) + frames kind ≤ w → (y ≤ x) × (x + frames kind ≤ y + w)
near_back kind c x y w some any apart other round near =
    let n = frames_two kind in
    ⊎_elim
    (λ (low : y ≤ x).
    let e : distance_of kind (tag_of kind (c + (x - 1))) (tag_of kind (c + (y - 1))) ≡ c + (x - 1) - (c + (y - 1)) =
    distance_of_lem kind (c + (x - 1)) (c + (y - 1)) (omega arith) (omega arith) in
    (low, omega arith))
    (λ (high : x < y).
    let far = behind_far kind (c + (x - 1)) (c + (y - 1)) w (omega arith) (omega arith) round in
    absurd (omega arith))
    (le_or_lt y x)

-- 'every port has had a frame and is in step or flagged failed'

ready_is : (g : Group) (s : Step) → s.heard ≡ 1 → in_step g s ≡ true → ready g s ≡ true
unfolding ready
ready_is g s h e = rw (e, h) refl

ready_back : (g : Group) (s : Step) → s.failed ≡ 0 → ready g s ≡ true → in_step g s ≡ true
unfolding ready
ready_back g s e t =
    ⊎_elim (λ (a : in_step g s ≡ true). a) (λ (a : flag_of s.failed ≡ true). absurd (true≢false (sym a ∙ rw e refl)))
    (or_cases (in_step g s) (flag_of s.failed) (and_right (flag_of s.heard) (in_step g s || flag_of s.failed) t))

module _ (r : Road) where
  -- the port whose next frame is the one at x is in step
  abbrev pub InStep : ℕ → ℕ → Type 0
  InStep p x = run_from r p + L r * 2 ≤ x

module _ (r : Road) (f : Fair r) where
  sizes : Sizes r.kind r.ports r.payload r.window
  sizes = sizes_in r f

  -- Ports in step, as the receiver's own tests see them.
  module _ (m : Moment) (coming : ℕ → ℕ) (o : Lined r m) (heard : (q : ℕ) → q < r.ports → Heard r q (coming q) (step_at m.rows q)) where
    steps : (q : ℕ) → q < r.ports → InStep r q (coming q) → in_step (group_at m.rows) (step_at m.rows q) ≡ true
    unfolding in_step
    steps q b far = rw o.kind_is (heard_in_step r q (coming q) (step_at m.rows q) (heard q b) far)

    steps_not : (q : ℕ) → q < r.ports → coming q < run_from r q + L r * 2 → in_step (group_at m.rows) (step_at m.rows q) ≡ false
    unfolding in_step
    steps_not q b near = rw o.kind_is (heard_short r q (coming q) (step_at m.rows q) (heard q b) near)

    steps_back : (q : ℕ) → q < r.ports → in_step (group_at m.rows) (step_at m.rows q) ≡ true → InStep r q (coming q)
    steps_back q b e =
        ⊎_elim (λ (far : InStep r q (coming q)). far)
        (λ (near : coming q < run_from r q + L r * 2). absurd (true≢false (sym e ∙ steps_not q b near)))
        (le_or_lt (run_from r q + L r * 2) (coming q))

    -- the latest tag of a port in step is that of its latest position
    latest_is : (q : ℕ) → q < r.ports → InStep r q (coming q) → latest (group_at m.rows) (step_at m.rows q) ≡ tag_of r.kind (r.offset + (coming q - 1))
    unfolding latest
    latest_is q b far =
        let n = frames_two r.kind in
        let e : r.offset + coming q ≡ r.offset + (coming q - 1) + 1 = omega arith in
        rw (o.kind_is, heard_next r q (coming q) (step_at m.rows q) (heard q b) far, e) (tag_before_lem r.kind (r.offset + (coming q - 1)))

    had_is : (q : ℕ) → q < r.ports → r.first q < coming q → (step_at m.rows q).heard ≡ 1
    had_is q b late = (heard q b).heard ∙ rw (lt-ltb (r.first q) (coming q) late) refl

    -- 'A fresh receiver begins' where all ports are in step and none is further behind than the spread.
    pub must_begin : ((q : ℕ) → q < r.ports → InStep r q (coming q)) → ((p q : ℕ) → p < r.ports → q < r.ports → coming p + L r ≤ coming q + r.window)
        → begins (group_at m.rows) m.rows r.ports ≡ true
    must_begin far near =
        let z = sizes in
        let some = z.some_ports in
        let e : suc (r.ports - 1) ≡ r.ports = omega arith in
        let top : Greatest coming r.ports = rw e at (greatest_of coming (r.ports - 1)) in
        let k = top.at in
        let run = frames_two r.kind in
        let arc : Arc (group_at m.rows) m.rows r.ports (tag_of r.kind (r.offset + (coming k - 1))) =
        record {
          all_ready = λ q b. ready_is (group_at m.rows) (step_at m.rows q) (had_is q b (let w = far q b in let v = from_first r q in omega arith)) (steps q b (far q b));
          port = k;
          below = top.below;
          stepped = steps k top.below (far k top.below);
          fore_is = latest_is k top.below (far k top.below);
          behind =
              λ j b t.
              rw (latest_is j b (far j b), o.kind_is, o.window_is)
              (near_of r.kind r.offset (coming k) (coming j) r.window (let w = far j b in omega arith) (top.most j b) (near k j top.below b) z.round);
        } in
        (complete (group_at m.rows) m.rows r.ports (tag_of r.kind (r.offset + (coming k - 1))) arc (rw (o.kind_is, o.window_is) z.narrow)).0

    -- The beginning: all ports are in step, the foremost tag is that of the foremost position, and none is further behind it than the spread.

    module _ (apart : Apart r coming) (e : begins (group_at m.rows) m.rows r.ports ≡ true) where
      arc : Arc (group_at m.rows) m.rows r.ports (foremost (group_at m.rows) m.rows r.ports)
      arc = sound (group_at m.rows) m.rows r.ports e

      all_in : (q : ℕ) → q < r.ports → InStep r q (coming q)
      all_in q b =
          steps_back q b (ready_back (group_at m.rows) (step_at m.rows q) (heard q b).failed (arc.all_ready q b))

      all_late : (q : ℕ) → q < r.ports → r.first q < coming q
      all_late q b =
          let w = all_in q b in
          let v = from_first r q in
          let run = frames_two r.kind in
          omega arith

      top : ℕ
      top = arc.port

      top_in : top < r.ports
      unfolding top
      top_in = arc.below

      -- the foremost position
      fore : ℕ
      fore = coming top - 1

      fore_tag : foremost (group_at m.rows) m.rows r.ports ≡ tag_of r.kind (r.offset + fore)
      unfolding top fore
      fore_tag = sym arc.fore_is ∙ latest_is top top_in (all_in top top_in)

      none_behind : (q : ℕ) → q < r.ports → (coming q ≤ coming top) × (coming top + L r ≤ coming q + r.window)
      unfolding fore
      none_behind q b =
          let near = arc.behind q b (steps q b (all_in q b)) in
          let near : distance_of r.kind (tag_of r.kind (r.offset + (coming top - 1))) (tag_of r.kind (r.offset + (coming q - 1))) + L r ≤ r.window =
          rw (fore_tag, latest_is q b (all_in q b), o.kind_is, o.window_is) at near in
          let late = all_late q b in
          let late-top = all_late top top_in in
          near_back r.kind r.offset (coming top) (coming q) r.window (omega arith) (omega arith)
          (apart top q top_in b late-top late)
          (apart q top b top_in late late-top)
          sizes.round
          near

      top_is : coming top ≡ fore + 1
      unfolding fore
      top_is = let late = all_late top top_in in omega arith

      foremost_is : Foremost r coming fore
      foremost_is =
          record { port = top; below = top_in; is = top_is; most = λ q b. (let w = (none_behind q b).0 in let v = top_is in omega arith) }

      -- the first epoch to start after it
      epoch : ℕ
      epoch = suc (fore / L r)

      next_after : fore < epoch * L r
      unfolding epoch
      next_after = start_after_lt r.kind fore

      next_soon : epoch * L r ≤ fore + L r
      unfolding epoch
      next_soon = start_after_le r.kind fore

      nobody_there : (q : ℕ) → q < r.ports → coming q ≤ epoch * L r
      nobody_there q b =
          let w = (none_behind q b).0 in
          let v = top_is in
          let a = next_after in
          omega arith

      rows_begun : List (List ℕ)
      rows_begun = begun_of (group_at m.rows) r.ports m.rows

      long_begun : length rows_begun ≡ rows_for r.ports
      unfolding rows_begun
      long_begun = length_begun (group_at m.rows) r.ports m.rows ∙ o.rows_long

      group_begun : group_at rows_begun
          ≡ group_to (group_at m.rows) 1 0 (epoch_after (group_at m.rows).kind (epoch_of (group_at m.rows).kind (foremost (group_at m.rows) m.rows r.ports))) (group_at m.rows).origin (group_at m.rows).rs_ack
      unfolding rows_begun
      group_begun = begun_group (group_at m.rows) r.ports m.rows (rw o.rows_long (omega arith))

      step_begun : (q : ℕ) → q < r.ports → step_at rows_begun q ≡ cleared_step (step_at m.rows q) true
      unfolding rows_begun
      step_begun q b =
          begun_step_at (group_at m.rows) r.ports m.rows q b (rw o.rows_long (omega arith)) ∙ rw (steps q b (all_in q b)) refl

      marks_begun : (q : ℕ) → q < r.ports → marks_at rows_begun q ≡ replicate 16 0
      unfolding rows_begun
      marks_begun q b = begun_marks_at (group_at m.rows) r.ports m.rows q b (rw o.rows_long (omega arith))

      stepped_begun : (q : ℕ) → q < r.ports → Stepped r (coming q) (cleared_step (step_at m.rows q) true)
      unfolding cleared_step
      stepped_begun q b = heard_stepped r q (coming q) (step_at m.rows q) (heard q b) (all_in q b)

      gathering_begun : (q : ℕ) → q < r.ports → (port_at rows_begun q).gathering ≡ (port_at m.rows q).gathering
      unfolding rows_begun
      gathering_begun q b = ap (λ (p : Port). p.gathering) (begun_port (group_at m.rows) r.ports m.rows q b (rw o.rows_long (omega arith)))

      oldest_begun : (group_at rows_begun).oldest ≡ epoch_after r.kind (epoch_of r.kind (tag_of r.kind (r.offset + fore)))
      oldest_begun = ap (λ (g : Group). g.oldest) group_begun ∙ rw (fore_tag, o.kind_is) refl

      tag_begun : first_tag r.kind (group_at rows_begun).oldest ≡ tag_of r.kind (r.offset + epoch * L r)
      unfolding epoch
      tag_begun = ap (first_tag r.kind) oldest_begun ∙ epoch_after_tag r.kind r.offset fore f.starts

      no_epoch : (q k : ℕ) → q < r.ports → leb (epoch * L r + (k + 1) * L r) (coming q) ≡ false
      no_epoch q k b =
          let w = nobody_there q b in
          let some = frames_some r.kind in
          let many = frames_many r.kind k in
          lt-leb (epoch * L r + (k + 1) * L r) (coming q) (omega arith)

      module _ (answers : List ℕ) (live : (q : ℕ) → q < r.ports → Live r q (coming q) (port_at m.rows q).gathering) where
        moment_begun : Moment
        moment_begun = record { rows = rows_begun; store = m.store; answers = answers; told = m.told }

        lined_begun : Lined r moment_begun
        unfolding moment_begun
        lined_begun =
            record {
              rows_long = long_begun;
              store_long = o.store_long;
              kind_is = ap (λ (g : Group). g.kind) group_begun ∙ o.kind_is;
              count_is = ap (λ (g : Group). g.count) group_begun ∙ o.count_is;
              payload_is = ap (λ (g : Group). g.payload) group_begun ∙ o.payload_is;
              window_is = ap (λ (g : Group). g.window) group_begun ∙ o.window_is;
              origin_in = rw group_begun o.origin_in;
            }

        open_begun : Open r moment_begun coming epoch
        unfolding moment_begun cleared_step
        open_begun =
            record {
              lined = lined_begun;
              begun = ap (λ (g : Group). g.begun) group_begun;
              oldest = tag_begun;
              oldest_small = rw oldest_begun (epoch_after_lt r.kind _);
              in_step_lem = all_in;
              stepped = λ q b. rw (step_begun q b) (stepped_begun q b);
              live = λ q b. rw (gathering_begun q b) (live q b);
              ever_since = λ q b. rw (step_begun q b) refl;
              joined_at = λ q b. rw (step_begun q b) refl;
              behind = λ q b. (let w = (none_behind q b).1 in let v = top_is in let a = next_soon in omega arith);
              ahead = λ q b. (let w = nobody_there q b in omega arith);
              marks_row = λ q b. rw (marks_begun q b) sixteen_none;
              marks = λ q k b c. rw (marks_begun q b) (mark_none k ∙ sym (no_epoch q k b));
              stands = λ q x b low high. absurd (let w = nobody_there q b in omega arith);
            }

        first_begun : m.told ≡ [] → First r moment_begun coming epoch
        unfolding moment_begun cleared_step
        first_begun none =
            record {
              open_at = open_begun;
              gathered = ap (λ (g : Group). g.gathered) group_begun;
              joined = λ q b. rw (step_begun q b, le-ltb (epoch * L r) (coming q) (nobody_there q b)) refl;
              owes = record { port = top; below = top_in; owes = (let w = nobody_there top top_in in let some = frames_some r.kind in omega arith) };
              told = none;
            }

        begun_comes : m.told ≡ [] → Begun? r (record { rows = begun_of (group_at m.rows) r.ports m.rows; store = m.store; answers = answers; told = m.told }) coming
        unfolding moment_begun rows_begun epoch
        begun_comes none =
            comes fore foremost_is
            (record { stepped = all_in; near = λ p q hp hq. (let a = (none_behind p hp).0 in let b = (none_behind q hq).1 in omega arith) })
            (first_begun none)

  -- A frame before the beginning: its port is counted on, nothing is stored, and all ports are looked at.

  pub record Counted (p x : ℕ) (t : Taken) : Type 0 where
    -- 12: 'port not in step after this frame'
    pub answer : t.answer ≡ cond (leb (run_from r p + L r * 2) (x + 1)) 0 12
    pub settles : t.settles ≡ true
    pub kept : is_kept t ≡ false
    pub heard : Heard r p (x + 1) t.step
    pub live : (row : List ℕ) → Live r p x row → Live r p (x + 1) (row_after r row t (r.h4 p x))

  module _ (g : Group) (p x : ℕ) (s : Step) (odd : Bool) (k : g.kind ≡ r.kind) (o : Heard r p x s) (even : in_step_at r.kind s.count ≡ true → odd ≡ false)
      (sent : SentWith r.kind (r.offset + x) (r.h4 p x)) (unbegun : g.begun ≡ 0) where
    -- the packet being gathered, of a frame that counts from the run's first on
    live_by : (t : Taken) → (run_from r p ≤ x → t.counted ≡ true) → t.step.next ≡ (ran_on g s odd (r.h4 p x)).next → (row : List ℕ) → Live r p x row → Live r p (x + 1) (row_after r row t (r.h4 p x))
    live_by t counts next row l =
        ⊎_elim
        (λ (late : run_from r p ≤ x).
        live_taken r f p x row t (counts late) (ap (λ (n : ℕ). place_of r.kind (tag_before r.kind n)) next ∙ run_own r p x s odd o even sent g k late) l)
        (λ (early : x < run_from r p). live_early r p x (row_after r row t (r.h4 p x)) early (after_long r row t (r.h4 p x) l.long))
        (le_or_lt (run_from r p) x)

    in_step_now : (q : Step) → q.count ≡ (ran_on g s odd (r.h4 p x)).count → Heard r p (x + 1) q → stepped g s odd (r.h4 p x) ≡ leb (run_from r p + L r * 2) (x + 1)
    in_step_now q e h =
        ap (λ (n : ℕ). in_step_at n (ran_on g s odd (r.h4 p x)).count) k
        ∙ ap (λ (n : ℕ). in_step_at r.kind n) (sym e)
        ∙ heard_test r p (x + 1) q h

    counted_in_lem : stepped g s odd (r.h4 p x) ≡ true → Counted p x (frame_dropped g s (ran_on g s odd (r.h4 p x)))
    unfolding frame_dropped
    counted_in_lem e =
        let h = heard_dropped r p x s odd o even sent g k in
        record {
          answer = rw (sym (in_step_now (frame_dropped g s (ran_on g s odd (r.h4 p x))).step refl h) ∙ e) refl;
          settles = rw unbegun refl;
          kept = refl;
          heard = h;
          live = live_by (frame_dropped g s (ran_on g s odd (r.h4 p x))) (λ late. refl) refl;
        }

    counted_out : stepped g s odd (r.h4 p x) ≡ false → Counted p x (counts_on g s (ran_on g s odd (r.h4 p x)))
    unfolding counts_on
    counted_out e =
        let h = heard_counts r p x s odd o even sent g k in
        record {
          answer = rw (sym (in_step_now (counts_on g s (ran_on g s odd (r.h4 p x))).step refl h) ∙ e) refl;
          settles = rw unbegun refl;
          kept = refl;
          heard = h;
          live = live_by (counts_on g s (ran_on g s odd (r.h4 p x))) (λ late. rw (ne_eqb (ran_on g s odd (r.h4 p x)).count 0 (run_some r p x s odd o even sent g k late)) refl) refl;
        }

    counted : Counted p x (taken_of g s false odd (r.h4 p x))
    counted = go (stepped g s odd (r.h4 p x)) refl
      where
        go : (c : Bool) → stepped g s odd (r.h4 p x) ≡ c → Counted p x (taken_of g s false odd (r.h4 p x))
        go true e = rw (taken_dropped g s false odd (r.h4 p x) refl e (rw unbegun refl)) (counted_in_lem e)
        go false e = rw (taken_counts g s false odd (r.h4 p x) refl e) (counted_out e)

  module _ (m : Moment) (coming : ℕ → ℕ) (o : Before r m coming) (p : ℕ) (b : p < r.ports) (sent : SentWith r.kind (r.offset + coming p) (r.h4 p (coming p))) where
    taken : Taken
    taken = taken_in m.rows p false (r.h4 p (coming p))

    -- a frame of a port in step ends no odd packet
    even : in_step_at r.kind (step_at m.rows p).count ≡ true → odd_in m.rows p (r.h4 p (coming p)) ≡ false
    even e =
        let far : run_from r p + L r * 2 ≤ coming p = leb-true (run_from r p + L r * 2) (coming p) (sym (heard_test r p (coming p) (step_at m.rows p) (o.heard p b)) ∙ e) in
        even_now r f m o.lined p (coming p) b (o.live p b) (heard_next r p (coming p) (step_at m.rows p) (o.heard p b) far) far

    is_counted : Counted p (coming p) taken
    unfolding taken
    is_counted = counted (group_at m.rows) p (coming p) (step_at m.rows p) (odd_in m.rows p (r.h4 p (coming p))) o.lined.kind_is (o.heard p b) even sent o.begun

    not_outside : taken.answer ≢ 11
    not_outside = go (leb (run_from r p + L r * 2) (coming p + 1)) is_counted.answer
      where
        go : (c : Bool) → taken.answer ≡ cond c 0 12 → taken.answer ≢ 11
        go true e d = omega arith
        go false e d = omega arith

    -- the port's rows, before all ports are looked at
    rows_then : List (List ℕ)
    rows_then = port_rows r.kind m.rows p taken (r.h4 p (coming p))

    then_is : framed r p (coming p) m
        ≡ record { rows = settled_of r.ports m.store rows_then; store = m.store; answers = m.answers ++ (taken.answer ∷ []); told = m.told }
    unfolding taken rows_then settled_by store_by
    then_is = framed_is r f m o.lined p (coming p) b not_outside ∙ rw (is_counted.settles, is_counted.kept) refl

    -- the answer: 0 if the port is in step after the frame, 12 if not
    pub before_answer : (framed r p (coming p) m).answers ≡ m.answers ++ (cond (leb (run_from r p + L r * 2) (coming p + 1)) 0 12 ∷ [])
    before_answer = ap (λ (w : Moment). w.answers) then_is ∙ ap (λ (a : ℕ). m.answers ++ (a ∷ [])) is_counted.answer

    then_long : length rows_then ≡ rows_for r.ports
    unfolding rows_then
    then_long = length_frame r.kind m.rows p taken (r.h4 p (coming p)) ∙ o.lined.rows_long

    then_group : group_at rows_then ≡ group_at m.rows
    unfolding rows_then
    then_group = frame_group r.kind m.rows p taken (r.h4 p (coming p))

    module _ (coming' : ℕ → ℕ) (next : coming' p ≡ coming p + 1) (others : (q : ℕ) → q ≢ p → coming' q ≡ coming q) where
      then_heard : (q : ℕ) → q < r.ports → Heard r q (coming' q) (step_at rows_then q)
      unfolding rows_then
      then_heard q c =
          ⊎_elim
          (λ (e : q ≡ p).
          rw (e, next, frame_step r.kind m.rows p taken (r.h4 p (coming p)) r.ports b (rw o.lined.rows_long (omega arith))) is_counted.heard)
          (λ (d : q ≢ p). rw (others q d, frame_step_other r.kind m.rows p taken (r.h4 p (coming p)) q d) (o.heard q c))
          (eq_or_ne q p)

      then_live : (q : ℕ) → q < r.ports → Live r q (coming' q) (port_at rows_then q).gathering
      unfolding rows_then
      then_live q c =
          ⊎_elim
          (λ (e : q ≡ p).
          rw (e, next, frame_gathering r.kind m.rows p taken (r.h4 p (coming p)) r.ports b (rw o.lined.rows_long (omega arith)))
          (is_counted.live (port_at m.rows p).gathering (o.live p b)))
          (λ (d : q ≢ p). rw (others q d, frame_other r.kind m.rows p taken (r.h4 p (coming p)) q d) (o.live q c))
          (eq_or_ne q p)

      module _ (answers : List ℕ) where
        then_lined : Lined r (record { rows = rows_then; store = m.store; answers = answers; told = m.told })
        then_lined =
            let l = o.lined in
            record {
              rows_long = then_long;
              store_long = l.store_long;
              kind_is = ap (λ (g : Group). g.kind) then_group ∙ l.kind_is;
              count_is = ap (λ (g : Group). g.count) then_group ∙ l.count_is;
              payload_is = ap (λ (g : Group). g.payload) then_group ∙ l.payload_is;
              window_is = ap (λ (g : Group). g.window) then_group ∙ l.window_is;
              origin_in = rw then_group l.origin_in;
            }

        then_begun : (group_at rows_then).begun ≡ 0
        then_begun = ap (λ (g : Group). g.begun) then_group ∙ o.begun

        look : Apart r coming' → (c : Bool) → begins (group_at rows_then) rows_then r.ports ≡ c
            → Begun? r (record { rows = settled_of r.ports m.store rows_then; store = m.store; answers = answers; told = m.told }) coming'
        look apart true e =
            rw (settled_begins r.ports m.store rows_then (rw then_long (omega arith)) (rw then_begun refl) e)
            (begun_comes (record { rows = rows_then; store = m.store; answers = answers; told = m.told }) coming' then_lined then_heard apart e answers then_live o.told)
        look apart false e =
            let none : flag_of (group_at rows_then).begun ≡ false = rw then_begun refl in
            rw (settled_stays r.ports m.store rows_then (record {
              heard = λ t. absurd (true≢false (sym t ∙ none));
              gathers = λ t g. absurd (true≢false (sym t ∙ none));
              waits = λ t. e;
            }))
            (stays (record { lined = then_lined; heard = then_heard; live = then_live; begun = then_begun; unfit = e; told = o.told }))

  -- Receiving has still not begun, or the first epoch to start after the foremost position is being gathered.
  pub before_frame : (m : Moment) (p : ℕ) (coming coming' : ℕ → ℕ) → Served r p coming coming' → Apart r coming' → SentWith r.kind (r.offset + coming p) (r.h4 p (coming p)) → Before r m coming
      → Begun? r (framed r p (coming p) m) coming'
  before_frame m p coming coming' s apart sent o =
      rw (then_is m coming o p s.below sent)
      (look m coming o p s.below sent coming' s.next s.others (m.answers ++ ((taken m coming o p s.below sent).answer ∷ [])) apart
      (begins (group_at (rows_then m coming o p s.below sent)) (rows_then m coming o p s.below sent) r.ports) refl)
