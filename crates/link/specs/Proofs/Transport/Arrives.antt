-- What a frame of an open window is: dropped before the window's first frame, kept from there on; a port that has not joined joins at the first. Never is it refused.
-- The idea: the port is in step, so the frame's tag is that of its position. From the window's first on, the tag's distance is that of the positions (`distance_in_lem`); before it the tag lies outside (`window_out`). Which of three cases of `taken_of` it is goes by that and by whether the port has joined (`Joins`).
use Rattle.std.specs.Prelude.{◌≡◌, ◌⊎◌, ◌≢◌, Bool, true, false, cond, not, ◌&&◌, List, ℕ, ◌+◌, ◌-◌, ◌*◌, ◌≤◌, ◌<◌, eqb, leb, ltb}
use Rattle.std.proofs.Math.Path.{refl, ap}
use Rattle.std.proofs.Common.{sym, ◌∙◌, ⊎_elim, arith, eq-eqb, le-leb, le-ltb, lt-ltb, ne_eqb}
use Rattle.std.proofs.Math.Bool.{and-false, or-false, or-true}
use Rattle.std.proofs.lemmas.Bool.{lt-leb}
use Rattle.ground.specs.Truth.{eq_or_ne, le_or_lt}
use Rattle.packet.specs.Kinds.{distance_of, ends_epoch, epochs_in, frames, starts_epoch, tag_of, tags}
use Rattle.packet.specs.Laws.Epochs.{ends_else, ends_first, ends_last, first_in, frames_many, none_in, same_epoch}
use Rattle.packet.specs.Theorems.Tags.{behind_far, distance_of_lem, frames_two, starts_each}
use Rattle.receiver.specs.Frame.{marks_by, odd_in}
use Rattle.rows.specs.declared.group.Group.{Group}
use Rattle.rows.specs.declared.step.Step.{Step}
use Rattle.rows.specs.Group.{group_at}
use Rattle.rows.specs.Packets.{marks_at}
use Rattle.rows.specs.Step.{step_at}
use Rattle.step.specs.Arrival.{frame_dropped, distance_in, flag_of, joining, keeps, taken_of, is_kept, kept_at}
use Rattle.step.specs.declared.arrival.Taken.{Taken}
use Rattle.step.specs.declared.run.Run.{Run}
use Rattle.step.specs.Laws.Arrival.{in_window, ran_on, stepped, taken_joins, taken_keeps, taken_waits}
use Rattle.step.specs.Run.{in_step_at}
use Rattle.store.specs.Laws.Marks.{mark_cut, mark_marked, sixteen_cut, sixteen_marked}
use Rattle.store.specs.Marks.{Sixteen, cut_from, mark_in, marked_at}
use Rattle.link.specs.Road.{L, Road}
use Rattle.link.specs.Proofs.Fair.{Fair, sizes_in}
use Rattle.link.specs.Running.{Moment}
use Rattle.link.specs.Proofs.Standing.{Open, Stepped}
use Rattle.link.specs.Proofs.Transport.Heard.{from_first, stepped_dropped, stepped_joining, stepped_keeps}
use Rattle.link.specs.Proofs.Transport.Live.{even_now}

-- a frame more makes no difference to an epoch that it does not end
leb_on : (a x : ℕ) → a ≢ x + 1 → leb a x ≡ leb a (x + 1)
leb_on a x d =
    ⊎_elim (λ (h : a ≤ x). le-leb a x h ∙ sym (le-leb a (x + 1) (omega arith))) (λ (h : x < a). lt-leb a x h ∙ sym (lt-leb a (x + 1) (omega arith)))
    (le_or_lt a x)

-- marks after a frame that is kept, d after the window's first
module _ (kind b d : ℕ) (row : List ℕ) (sixteen : Sixteen row) (near : d < tags kind)
    (marks : (k : ℕ) → k < 128 → mark_in row k ≡ leb (b + (k + 1) * frames kind) (b + d)) where
  marks_kept : (k : ℕ) → k < 128 → mark_in (cond (ends_epoch kind d) (marked_at row (epochs_in kind d)) row) k ≡ leb (b + (k + 1) * frames kind) (b + d + 1)
  marks_kept k c = go (ends_epoch kind d) refl
    where
      last : ℕ
      last = epochs_in kind d

      go : (e : Bool) → ends_epoch kind d ≡ e → mark_in (cond e (marked_at row last) row) k ≡ leb (b + (k + 1) * frames kind) (b + d + 1)
      go true e =
          let ends : (last + 1) * frames kind ≡ d + 1 = ends_last kind d near e in
          mark_marked row sixteen last k c
          ∙ ⊎_elim
          (λ (s : k ≡ last).
          let here : (k + 1) * frames kind ≡ d + 1 = rw s ends in
          rw (eq-eqb k last s, or-true (mark_in row k)) (sym (le-leb (b + (k + 1) * frames kind) (b + d + 1) (omega arith))))
          (λ (s : k ≢ last).
          rw (ne_eqb k last s, or-false (mark_in row k))
          (marks k c ∙ leb_on (b + (k + 1) * frames kind) (b + d) (λ (q : b + (k + 1) * frames kind ≡ b + d + 1). s (same_epoch kind k last (omega arith)))))
          (eq_or_ne k last)
      go false e =
          marks k c ∙ leb_on (b + (k + 1) * frames kind) (b + d) (λ (q : b + (k + 1) * frames kind ≡ b + d + 1). ends_else kind d k e (omega arith))

-- a port's frame that is answered 0, as the window after it wants it
pub record Goes (r : Road) (m : Moment) (coming : ℕ → ℕ) (i p : ℕ) (t : Taken) : Type 0 where
  pub answer : t.answer ≡ 0
  pub stepped : Stepped r (coming p + 1) t.step
  pub counted : t.counted ≡ true
  pub ever_since : t.step.ever_since ≡ (step_at m.rows p).ever_since
  pub joined_at : t.step.joined_at ≡ 0
  pub whole : t.step.whole ≡ (step_at m.rows p).whole
  pub joined : t.step.joined ≡ cond (ltb (i * L r) (coming p + 1)) 1 0
  pub marks_row : Sixteen (marks_by r.kind (marks_at m.rows p) t)
  pub marks : (k : ℕ) → k < 128 → mark_in (marks_by r.kind (marks_at m.rows p) t) k ≡ leb (i * L r + (k + 1) * L r) (coming p + 1)
  pub kept : i * L r ≤ coming p → is_kept t ≡ true
  pub place : i * L r ≤ coming p → (kept_at t) ≡ coming p - i * L r
  pub dropped : coming p < i * L r → is_kept t ≡ false
  -- what follows for all ports
  pub settles_not : flag_of (group_at m.rows).gathered ≡ true → t.settles ≡ false
  pub settles : flag_of (group_at m.rows).gathered ≡ false → coming p + 1 ≡ i * L r + L r → t.settles ≡ true

-- joined, or before the window's first frame or at it
pub record Joins (r : Road) (m : Moment) (coming : ℕ → ℕ) (i p : ℕ) : Type 0 where
  pub is : (((step_at m.rows p).joined ≡ 1) × (i * L r ≤ coming p)) ⊎ (((step_at m.rows p).joined ≡ 0) × (coming p ≤ i * L r))

module _ (r : Road) (fair : Fair r) (m : Moment) (coming : ℕ → ℕ) (i : ℕ) (o : Open r m coming i) (p : ℕ) (b : p < r.ports) (near : coming p < i * L r + r.window) where
  abbrev g : Group
  g = group_at m.rows

  abbrev s : Step
  s = step_at m.rows p

  abbrev h : ℕ
  h = r.h4 p (coming p)

  abbrev odd : Bool
  odd = odd_in m.rows p (r.h4 p (coming p))

  abbrev run : Run
  run = ran_on g s odd h

  abbrev row : List ℕ
  row = marks_at m.rows p

  -- in step, from a frame on that its port had
  stepped_then : Stepped r (coming p) s
  stepped_then = o.stepped p b

  late : r.first p ≤ coming p
  late = let far = o.in_step_lem p b in let from = from_first r p in omega arith

  -- it ends no odd packet
  even : odd ≡ false
  even = even_now r fair m o.lined p (coming p) b (o.live p b) stepped_then.next (o.in_step_lem p b)

  near_tag : i * L r ≤ coming p → coming p - i * L r < tags r.kind
  near_tag low =
      let q = sizes_in r fair in
      let half = q.round in
      omega arith

  kept_sixteen : (d : ℕ) → Sixteen (cond (ends_epoch r.kind d) (marked_at row (epochs_in r.kind d)) row)
  kept_sixteen d = go (ends_epoch r.kind d)
    where
      go : (e : Bool) → Sixteen (cond e (marked_at row (epochs_in r.kind d)) row)
      go true = sixteen_marked row (o.marks_row p b) (epochs_in r.kind d)
      go false = o.marks_row p b

  kept_marks : i * L r ≤ coming p → (k : ℕ) → k < 128
      → mark_in (cond (ends_epoch r.kind (coming p - i * L r)) (marked_at row (epochs_in r.kind (coming p - i * L r))) row) k ≡ leb (i * L r + (k + 1) * L r) (coming p + 1)
  kept_marks low k c =
      let e : i * L r + (coming p - i * L r) ≡ coming p = omega arith in
      rw e at (marks_kept r.kind (i * L r) (coming p - i * L r) row (o.marks_row p b) (near_tag low) (λ n d. rw e (o.marks p n b d)) k c)

  cut_marks : coming p ≡ i * L r → (k : ℕ) → k < 128 → mark_in (cut_from row (epochs_in g.kind 0)) k ≡ leb (i * L r + (k + 1) * L r) (coming p + 1)
  cut_marks same k c =
      let n = frames_two r.kind in
      let a = frames_many r.kind k in
      mark_cut row (o.marks_row p b) (epochs_in g.kind 0) k
      ∙ rw (none_in g.kind, le-ltb k 0 (omega arith), and-false (mark_in row k)) (sym (lt-leb (i * L r + (k + 1) * L r) (coming p + 1) (omega arith)))

  -- the frame that makes the epoch whole
  last_settles : flag_of g.gathered ≡ false → coming p + 1 ≡ i * L r + L r
      → (not (flag_of g.gathered) && ends_epoch g.kind (coming p - i * L r) && eqb (epochs_in g.kind (coming p - i * L r)) 0) ≡ true
  last_settles f x =
      let d : coming p - i * L r ≡ L r - 1 = omega arith in
      rw (f, d, o.lined.kind_is, ends_first r.kind, first_in r.kind) refl

  goes_keeps : i * L r ≤ coming p → s.joined ≡ 1 → Goes r m coming i p (keeps g s run (coming p - i * L r))
  unfolding keeps marks_by
  goes_keeps low j =
      record {
        answer = refl;
        stepped = stepped_keeps r fair g p (coming p) s odd o.lined.kind_is b late even stepped_then (coming p - i * L r);
        counted = refl;
        ever_since = refl;
        joined_at = o.joined_at p b;
        whole = refl;
        joined = j ∙ rw (lt-ltb (i * L r) (coming p + 1) (omega arith)) refl;
        marks_row = kept_sixteen (coming p - i * L r);
        marks = kept_marks low;
        kept = λ x. refl;
        place = λ x. refl;
        dropped = λ x. absurd (omega arith);
        settles_not = λ f. rw f refl;
        settles = last_settles;
      }

  goes_joins : coming p ≡ i * L r → Goes r m coming i p (joining g s run 0)
  unfolding joining marks_by
  goes_joins same =
      let n = frames_two r.kind in
      record {
        answer = refl;
        stepped = stepped_joining r fair g p (coming p) s odd o.lined.kind_is b late even stepped_then 0;
        counted = refl;
        ever_since = refl;
        joined_at = none_in g.kind;
        whole = refl;
        joined = rw (lt-ltb (i * L r) (coming p + 1) (omega arith)) refl;
        marks_row = sixteen_cut row (o.marks_row p b) (epochs_in g.kind 0);
        marks = cut_marks same;
        kept = λ x. refl;
        place = λ x. omega arith;
        dropped = λ x. absurd (omega arith);
        settles_not = λ f. refl;
        settles = λ f x. absurd (omega arith);
      }

  goes_dropped : coming p < i * L r → s.joined ≡ 0 → Goes r m coming i p (frame_dropped g s run)
  unfolding frame_dropped marks_by
  goes_dropped early j =
      let n = frames_two r.kind in
      record {
        answer = refl;
        stepped = stepped_dropped r fair g p (coming p) s odd o.lined.kind_is b late even stepped_then;
        counted = refl;
        ever_since = refl;
        joined_at = o.joined_at p b;
        whole = refl;
        joined = j ∙ rw (le-ltb (i * L r) (coming p + 1) (omega arith)) refl;
        marks_row = o.marks_row p b;
        marks = λ k c.
            let a = frames_many r.kind k in
            o.marks p k b c ∙ leb_on (i * L r + (k + 1) * L r) (coming p) (λ (z : i * L r + (k + 1) * L r ≡ coming p + 1). omega arith);
        kept = λ x. absurd (omega arith);
        place = λ x. absurd (omega arith);
        dropped = λ x. refl;
        settles_not = λ f. rw o.begun refl;
        settles = λ f x. absurd (omega arith);
      }

  -- Where its tag lies.

  stepped_now : stepped g s odd h ≡ true
  unfolding frame_dropped
  stepped_now =
      ap (λ (k : ℕ). in_step_at k run.count) o.lined.kind_is ∙ (stepped_dropped r fair g p (coming p) s odd o.lined.kind_is b late even stepped_then).count

  distance_now : distance_in g s.next ≡ distance_of r.kind (tag_of r.kind (r.offset + coming p)) (tag_of r.kind (r.offset + i * L r))
  unfolding distance_in
  distance_now = rw (o.lined.kind_is, stepped_then.next, o.oldest) refl

  distance_in_lem : i * L r ≤ coming p → distance_in g s.next ≡ coming p - i * L r
  distance_in_lem low =
      let t = near_tag low in
      let e : r.offset + coming p - (r.offset + i * L r) ≡ coming p - i * L r = omega arith in
      distance_now ∙ distance_of_lem r.kind (r.offset + coming p) (r.offset + i * L r) (omega arith) (omega arith) ∙ e

  window_in : i * L r ≤ coming p → in_window g s ≡ true
  window_in low = rw (distance_in_lem low, o.lined.window_is) (lt-ltb (coming p - i * L r) r.window (omega arith))

  window_out : coming p < i * L r → in_window g s ≡ false
  window_out early =
      let q = sizes_in r fair in
      let w = o.behind p b in
      rw (distance_now, o.lined.window_is)
      (le-ltb _ r.window (behind_far r.kind (r.offset + coming p) (r.offset + i * L r) r.window (omega arith) (omega arith) q.round))

  begun_now : flag_of g.begun ≡ true
  begun_now = rw o.begun refl

  starts_now : coming p ≡ i * L r → starts_epoch g.kind s.next ≡ true
  starts_now same =
      rw (o.lined.kind_is, stepped_then.next, same) (starts_each r.kind r.offset i fair.starts)

  pub goes : Joins r m coming i p → Goes r m coming i p (taken_of g s false odd h)
  goes j =
      ⊎_elim
      (λ (a : (s.joined ≡ 1) × (i * L r ≤ coming p)).
      rw (taken_keeps g s false odd h refl stepped_now begun_now (rw a.0 refl) (window_in a.1), distance_in_lem a.1) (goes_keeps a.1 a.0))
      (λ (a : (s.joined ≡ 0) × (coming p ≤ i * L r)).
      ⊎_elim
      (λ (same : coming p ≡ i * L r).
      let low : i * L r ≤ coming p = omega arith in
      let z : distance_in g s.next ≡ 0 = distance_in_lem low ∙ omega arith in
      rw (taken_joins g s false odd h refl stepped_now begun_now (rw a.0 refl) (starts_now same) (window_in low), z) (goes_joins same))
      (λ (other : coming p ≢ i * L r).
      let last = a.1 in
      let early : coming p < i * L r = omega arith in
      rw (taken_waits g s false odd h refl stepped_now begun_now (rw a.0 refl) (rw (window_out early) (and-false (starts_epoch g.kind s.next)))) (goes_dropped early a.0))
      (eq_or_ne (coming p) (i * L r)))
      j.is
