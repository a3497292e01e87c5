-- What the step rule knows of a port, frame by frame.
use Rattle.std.specs.Prelude.{◌≡◌, ◌≢◌, Bool, true, false, ℕ, ◌+◌, ◌-◌, ◌*◌, ◌≤◌, ◌<◌, leb}
use Rattle.std.proofs.Math.Path.{refl, ap}
use Rattle.std.proofs.Common.{◌∙◌, sym, subst, le-leb, le-ltb, lt-ltb}
use Rattle.std.proofs.Math.Logic.{⊎_elim}
use native.Mathlib.Omega.{arith}
use Rattle.std.proofs.lemmas.Bool.{lt-leb}
use Rattle.ground.specs.Truth.{le_or_lt}
use Rattle.rows.specs.declared.group.Group.{Group}
use Rattle.rows.specs.declared.step.Step.{Step}
use Rattle.step.specs.Arrival.{advanced, frame_dropped, counts_on, joined_at, joining, keeps, lost, run_of}
use Rattle.step.specs.Sent.{SentWith}
use Rattle.step.specs.SentRuns.{Stays, run_at, start_from}
use Rattle.step.specs.Theorems.Kept.{gained, kept}
use Rattle.step.specs.Theorems.Run.{run_counted, run_goes, run_in_step, run_next, run_place, run_short, run_starts, start_from_lem}
use Rattle.step.specs.declared.run.Run.{Run}
use Rattle.step.specs.Laws.Arrival.{ran_on}
use Rattle.step.specs.Run.{in_step_at, no_run, run_on}
use Rattle.packet.specs.Kinds.{epochs_in, place_of, tag_before, tag_of}
use Rattle.packet.specs.Theorems.Tags.{frames_two}
use Rattle.link.specs.Road.{L, Road}
use Rattle.link.specs.Proofs.Fair.{Fair}
use Rattle.link.specs.Proofs.Standing.{Heard, Stepped, heard_run}

module _ (r : Road) where
  -- where the run of a port's first frames starts
  abbrev pub run_from : ℕ → ℕ
  run_from p = start_from r.kind r.offset (r.first p)

  -- after the frame at x
  heard_after_lem : (p x : ℕ) → r.first p ≤ x → heard_run r p (x + 1) ≡ run_at r.kind r.offset (run_from p) x
  unfolding heard_run
  heard_after_lem p x low =
      let e : x + 1 - 1 ≡ x = omega arith in
      rw (lt-ltb (r.first p) (x + 1) (omega arith), e) refl

  heard_none : (p x : ℕ) → x ≤ r.first p → heard_run r p x ≡ no_run
  unfolding heard_run
  heard_none p x low = rw (le-ltb (r.first p) x low) refl

  -- a port that has had a frame
  heard_run_lem : (p x : ℕ) (s : Step) → Heard r p x s → r.first p < x → run_of s ≡ run_at r.kind r.offset (run_from p) (x - 1)
  unfolding heard_run
  heard_run_lem p x s o late = o.run ∙ rw (lt-ltb (r.first p) x late) refl

  pub from_first : (p : ℕ) → r.first p ≤ run_from p
  from_first p = (start_from_lem r.kind r.offset (r.first p)).from

  -- In step from the second multiframe on, and then with the tag of the position.

  pub heard_in_step : (p x : ℕ) (s : Step) → Heard r p x s → run_from p + L r * 2 ≤ x → in_step_at r.kind s.count ≡ true
  heard_in_step p x s o far =
      let a = from_first p in
      let n = frames_two r.kind in
      run_in_step r.kind r.offset (run_from p) (x - 1) (run_of s) (heard_run_lem p x s o (omega arith)) (omega arith)

  pub heard_short : (p x : ℕ) (s : Step) → Heard r p x s → x < run_from p + L r * 2 → in_step_at r.kind s.count ≡ false
  unfolding in_step_at
  heard_short p x s o near =
      ⊎_elim
      (λ (e : x ≤ r.first p).
      let none : s.count ≡ 0 = ap (λ (q : Run). q.count) (o.run ∙ heard_none p x e) in
      let n = frames_two r.kind in
      rw none (lt-leb (L r * 2) 0 (omega arith)))
      (λ (late : r.first p < x).
      run_short r.kind r.offset (run_from p) (x - 1) (run_of s) (heard_run_lem p x s o late) (omega arith))
      (le_or_lt x (r.first p))

  pub heard_test : (p x : ℕ) (s : Step) → Heard r p x s → in_step_at r.kind s.count ≡ leb (run_from p + L r * 2) x
  heard_test p x s o =
      ⊎_elim
      (λ (far : run_from p + L r * 2 ≤ x).
      heard_in_step p x s o far ∙ sym (le-leb (run_from p + L r * 2) x far))
      (λ (near : x < run_from p + L r * 2). heard_short p x s o near ∙ sym (lt-leb (run_from p + L r * 2) x near))
      (le_or_lt (run_from p + L r * 2) x)

  pub heard_next : (p x : ℕ) (s : Step) → Heard r p x s → run_from p + L r * 2 ≤ x → s.next ≡ tag_of r.kind (r.offset + x)
  heard_next p x s o far =
      let a = from_first p in
      let n = frames_two r.kind in
      let e : x - 1 + 1 ≡ x = omega arith in
      run_next r.kind r.offset (run_from p) (x - 1) (run_of s) (heard_run_lem p x s o (omega arith)) (omega arith) ∙ rw e refl

  -- all that is known of a port in step

  pub heard_stepped : (p x : ℕ) (s : Step) → Heard r p x s → run_from p + L r * 2 ≤ x → Stepped r x s
  heard_stepped p x s o far =
      let a = from_first p in
      let n = frames_two r.kind in
      let e : x - 1 + 1 ≡ x = omega arith in
      let g : Stepped r (x - 1 + 1) s = gained r.kind r.offset (run_from p) (x - 1) (run_of s) (heard_run_lem p x s o (omega arith)) (omega arith) in
      rw e at g

  -- One frame more, as sent, which ends no odd packet if its port is in step.

  module _ (p x : ℕ) (s : Step) (odd : Bool) (o : Heard r p x s) (even : in_step_at r.kind s.count ≡ true → odd ≡ false) (sent : SentWith r.kind (r.offset + x) (r.h4 p x)) where
    heard_goes : run_on r.kind (run_of s) odd (r.h4 p x) ≡ heard_run r p (x + 1)
    heard_goes =
        let low = o.from in
        let starts = start_from_lem r.kind r.offset (r.first p) in
        ⊎_elim
        (λ (e : x ≤ r.first p).
        let same : x ≡ r.first p = omega arith in
        let none : run_of s ≡ no_run = o.run ∙ heard_none p x e in
        let here : SentWith r.kind (r.offset + r.first p) (r.h4 p (r.first p)) = rw same at sent in
        rw (same, heard_after_lem p (r.first p) (omega arith))
        (run_starts r.kind r.offset (r.first p) (run_from p) (r.h4 p (r.first p)) (run_of s) odd starts (ap (λ (q : Run). q.count) none) (ap (λ (q : Run). q.bits) none) here))
        (λ (late : r.first p < x).
        let up : x - 1 + 1 ≡ x = omega arith in
        let here : SentWith r.kind (r.offset + (x - 1 + 1)) (r.h4 p x) = rw up sent in
        run_goes r.kind r.offset (r.first p) (run_from p) (x - 1) (r.h4 p x) (run_of s) odd starts (omega arith) (heard_run_lem p x s o late) even here
        ∙ ap (run_at r.kind r.offset (run_from p)) up
        ∙ sym (heard_after_lem p x low))
        (le_or_lt x (r.first p))

    -- a step record that the step rule has counted on
    heard_on : (t : Step) → t.heard ≡ 1 → t.failed ≡ 0 → run_of t ≡ run_on r.kind (run_of s) odd (r.h4 p x) → Heard r p (x + 1) t
    heard_on t had failed run =
        let low = o.from in
        record {
          from = omega arith;
          heard = had ∙ rw (lt-ltb (r.first p) (x + 1) (omega arith)) refl;
          failed = failed;
          run = run ∙ heard_goes;
        }

    module _ (g : Group) (k : g.kind ≡ r.kind) where
      run : Run
      run = ran_on g s odd (r.h4 p x)

      run_is : run ≡ run_on r.kind (run_of s) odd (r.h4 p x)
      unfolding run
      run_is = rw k refl

      pub heard_dropped : Heard r p (x + 1) (frame_dropped g s (ran_on g s odd (r.h4 p x))).step
      unfolding frame_dropped run
      heard_dropped = heard_on (advanced s run) refl refl run_is

      pub heard_counts : Heard r p (x + 1) (counts_on g s (ran_on g s odd (r.h4 p x))).step
      unfolding counts_on run
      heard_counts = heard_on (lost s 0 run) refl refl run_is

      ran : ran_on g s odd (r.h4 p x) ≡ run_at r.kind r.offset (run_from p) x
      unfolding run
      ran = run_is ∙ heard_goes ∙ heard_after_lem p x o.from

      -- from the run's first frame on it counts, at the place of its own tag
      pub run_some : run_from p ≤ x → (ran_on g s odd (r.h4 p x)).count ≢ 0
      run_some late = run_counted r.kind r.offset (run_from p) x (ran_on g s odd (r.h4 p x)) ran late

      pub run_own : run_from p ≤ x → place_of r.kind (tag_before r.kind (ran_on g s odd (r.h4 p x)).next) ≡ place_of r.kind (tag_of r.kind (r.offset + x))
      run_own late =
          run_place r.kind r.offset (r.first p) (run_from p) x (ran_on g s odd (r.h4 p x)) (start_from_lem r.kind r.offset (r.first p)) late ran

  -- A port in step stays so, and the tag to come is the one after.

  module _ (f : Fair r) where
    stepped_on : (p x : ℕ) (s t : Step) (odd : Bool) → p < r.ports → r.first p ≤ x → odd ≡ false → Stepped r x s → run_of t ≡ run_on r.kind (run_of s) odd (r.h4 p x) → Stepped r (x + 1) t
    stepped_on p x s t odd b low even o run =
        let k = kept r.kind (r.offset + x) (run_of s) odd (r.h4 p x) o (f.placed p x b low) even in
        let e : r.offset + x + 1 ≡ r.offset + (x + 1) = omega arith in
        subst (λ (n : ℕ). Stays r.kind n (run_of t)) e (subst (λ (q : Run). Stays r.kind (r.offset + x + 1) q) (sym run) k)

    module _ (g : Group) (p x : ℕ) (s : Step) (odd : Bool) (k : g.kind ≡ r.kind) (b : p < r.ports) (low : r.first p ≤ x) (even : odd ≡ false) (o : Stepped r x s) where
      ran_on_lem : ran_on g s odd (r.h4 p x) ≡ run_on r.kind (run_of s) odd (r.h4 p x)
      ran_on_lem = rw k refl

      pub stepped_dropped : Stepped r (x + 1) (frame_dropped g s (ran_on g s odd (r.h4 p x))).step
      unfolding frame_dropped
      stepped_dropped = stepped_on p x s (advanced s (ran_on g s odd (r.h4 p x))) odd b low even o ran_on_lem

      pub stepped_keeps : (d : ℕ) → Stepped r (x + 1) (keeps g s (ran_on g s odd (r.h4 p x)) d).step
      unfolding keeps
      stepped_keeps d = stepped_on p x s (advanced s (ran_on g s odd (r.h4 p x))) odd b low even o ran_on_lem

      pub stepped_joining : (d : ℕ) → Stepped r (x + 1) (joining g s (ran_on g s odd (r.h4 p x)) d).step
      unfolding joining
      stepped_joining d = stepped_on p x s (joined_at s (ran_on g s odd (r.h4 p x)) (epochs_in g.kind d)) odd b low even o ran_on_lem
