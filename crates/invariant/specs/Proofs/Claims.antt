-- What a port claims of the store after a frame, and after an epoch is passed.
use Rattle.std.specs.Prelude.{◌≡◌, ◌⊎◌, ◌≢◌, Bool, cond, ◌&&◌, List, ℕ, ◌+◌, ◌*◌, ◌/◌, ◌≤◌, ◌<◌}
use Rattle.std.proofs.Math.Path.{refl, sym}
use Rattle.std.proofs.Common.{◌∙◌}
use Rattle.std.proofs.Math.Logic.{inl, inr, ⊎_elim}
use Rattle.std.proofs.Math.Bool.{true, false}
use Rattle.std.proofs.lemmas.Bool.{false≢true}
use native.Mathlib.Omega.{arith}
use Rattle.std.proofs.Math.Dec.{eqb, ltb}
use borrow.Author.Tests.{eqb-true, ltb-true}
use Rattle.invariant.specs.Proofs.Kept.Passing.{ahead}
use Rattle.invariant.specs.Kept.Port.{PortKept, Windowed, offset}
use Rattle.invariant.specs.Proofs.Laws.Flags.{never}
use Rattle.invariant.specs.Proofs.Laws.Window.{distance_next, distance_passed, start_place}
use Rattle.ground.specs.Truth.{and_left, and_right, clash, eq_or_ne, le_or_lt, or_cases}
use Rattle.packet.specs.Kinds.{ends_epoch, epochs_in, frames, starts_epoch, tags}
use Rattle.packet.specs.Laws.Epochs.{epoch_cut, epoch_ended, epoch_more, in_epoch, later_back, later_part, part_back, part_before, whole_epochs}
use Rattle.packet.specs.Theorems.Tags.{frames_two}
use Rattle.phases.specs.Due.{owes_nothing}
use Rattle.phases.specs.Passing.{passed_group, passed_step}
use Rattle.receiver.specs.Frame.{marks_by}
use Rattle.rows.specs.declared.group.Group.{Group}
use Rattle.rows.specs.declared.step.Step.{Step}
use Rattle.step.specs.Arrival.{frame_dropped, counts_on, distance_in, flag_of, flagged, joining, keeps, outside, run_of, taken_of, is_kept, kept_at}
use Rattle.step.specs.Theorems.Lost.{run_goes_on}
use Rattle.step.specs.declared.arrival.Taken.{Taken}
use Rattle.step.specs.declared.run.Run.{Run}
use Rattle.step.specs.Laws.Arrival.{in_window, ran_on, stepped, taken_by}
use Rattle.store.specs.Laws.Marks.{mark_beyond, mark_cut, mark_marked, mark_passed, sixteen_marked}
use Rattle.store.specs.Marks.{first_mark, mark_in, marked_at, passed_marks}
use Rattle.invariant.specs.Claims.{Claims, Part}

-- what is claimed lies in the window
pub claims_inside : (g : Group) (s : Step) (marks : List ℕ) → PortKept g s marks → (d : ℕ) → Claims g s marks d → d < g.window
claims_inside g s marks k d c =
    ⊎_elim (λ (m : mark_in marks (d / frames g.kind) ≡ true). in_epoch g.kind d g.window (k.inside (d / frames g.kind) m))
    (λ (p : Part g s d). let l = p.upto in let r = (k.goes p.joined).reach in omega arith) c.has

-- as an epoch is passed, what is claimed was claimed an epoch's frames further on
module _ (g : Group) (s : Step) (marks : List ℕ) (k : PortKept g s marks) (begun : flag_of g.begun ≡ true) (due : owes_nothing g s marks ≡ true) (d : ℕ) where
  pub passed_part : Part (passed_group g) (passed_step s (first_mark marks)) d → Part g s (d + frames g.kind)
  unfolding passed_group passed_step
  passed_part p =
      let near : distance_in (passed_group g) s.next + frames g.kind ≡ offset g s =
      distance_passed g (passed_group g) s.next refl refl (ahead g s marks k begun due p.joined) in
      record {
        joined = p.joined;
        joined_at = later_back g.kind s.joined_at d p.joined_at;
        from = part_back g.kind d (offset g s) (distance_in (passed_group g) s.next) near p.from;
        upto = let l = p.upto in omega arith;
      }

  pub passed_marked : mark_in (passed_marks marks) (d / frames g.kind) ≡ true → mark_in marks ((d + frames g.kind) / frames g.kind) ≡ true
  passed_marked m = rw (epoch_more g.kind d) (sym (mark_passed marks k.row (d / frames g.kind)) ∙ m)

  pub passed_claims : Claims (passed_group g) (passed_step s (first_mark marks)) (passed_marks marks) d → Claims g s marks (d + frames g.kind)
  unfolding passed_group
  passed_claims c =
      record {
        begun = begun;
        has =
            ⊎_elim (λ (m : mark_in (passed_marks marks) (d / frames g.kind) ≡ true). inl (passed_marked m))
            (λ (p : Part (passed_group g) (passed_step s (first_mark marks)) d). inr (passed_part p)) c.has;
      }

-- the frame that was just handed
pub record New (g : Group) (s : Step) (failed : Bool) (t : Taken) (d : ℕ) : Type 0 where
  pub kept : is_kept t ≡ true
  pub at : d ≡ (kept_at t)
  pub next : (kept_at t) ≡ offset g s
  pub unflagged : failed ≡ false
  pub answer : t.answer ≡ 0

-- or one that was claimed before
pub record Old (g : Group) (s : Step) (marks : List ℕ) (t : Taken) (d : ℕ) : Type 0 where
  pub claims : Claims g s marks d
  pub apart : is_kept t ≡ true → d ≢ (kept_at t)

-- a frame of the port itself
module _ (g : Group) (s : Step) (marks : List ℕ) (failed odd : Bool) (h : ℕ) (W : Windowed g) (k : PortKept g s marks) (d : ℕ) where
  abbrev Stays : Taken → Type 0
  Stays t = Claims g t.step (marks_by g.kind marks t) d → New g s failed t d ⊎ Old g s marks t d

  flagged_stays : Stays (flagged g s)
  unfolding flagged marks_by
  flagged_stays c =
      inr (record {
        claims = record { begun = c.begun; has = ⊎_elim (λ (m : mark_in marks (d / frames g.kind) ≡ true). inl m) (λ (p : Part g (flagged g s).step d). never p.joined) c.has };
        apart = λ e. never e;
      })

  counts_stays : (run : Run) → Stays (counts_on g s run)
  unfolding counts_on marks_by
  counts_stays run c =
      inr (record {
        claims = record { begun = c.begun; has = ⊎_elim (λ (m : mark_in marks (d / frames g.kind) ≡ true). inl m) (λ (p : Part g (counts_on g s run).step d). never p.joined) c.has };
        apart = λ e. never e;
      })

  dropped_stays : (run : Run) → (flag_of g.begun ≡ true → flag_of s.joined ≡ false) → Stays (frame_dropped g s run)
  unfolding frame_dropped marks_by
  dropped_stays run off c =
      inr (record {
        claims =
            record {
              begun = c.begun;
              has =
                  ⊎_elim (λ (m : mark_in marks (d / frames g.kind) ≡ true). inl m)
                  (λ (p : Part g (frame_dropped g s run).step d). clash (flag_of s.joined) p.joined (off c.begun)) c.has;
            };
        apart = λ e. never e;
      })

  outside_stays : Stays (outside s)
  unfolding outside marks_by
  outside_stays c = inr (record { claims = c; apart = λ e. never e })

  module _ (f : failed ≡ false) (on : stepped g s odd h ≡ true) (w : in_window g s ≡ true) where
    abbrev run : Run
    run = ran_on g s odd h

    abbrev e : ℕ
    e = offset g s

    low : e < g.window
    low = ltb-true e g.window w

    round : e < tags g.kind
    round = let most = W.most in let l = low in omega arith

    next_offset : distance_in g run.next ≡ e + 1
    next_offset =
        rw (run_goes_on g.kind (run_of s) odd h on)
        (distance_next g s.next (let most = W.most in let l = low in let some = W.least in let more = frames_two g.kind in omega arith))

    part : flag_of s.joined ≡ true → frames g.kind * (offset g s / frames g.kind) ≤ d → d < offset g s → Part g s d
    part j from upto = record { joined = j; joined_at = later_part g.kind s.joined_at d (offset g s) (k.goes j).passed from; from = from; upto = upto }

    -- what is claimed after a frame of a joined port, but for the frame itself: an epoch is marked with its last frame
    pub keeps_marked : flag_of s.joined ≡ true → d ≢ offset g s → mark_in (marks_by g.kind marks (keeps g s run e)) (d / frames g.kind) ≡ true
        → (mark_in marks (d / frames g.kind) ≡ true) ⊎ ((ends_epoch g.kind (offset g s) ≡ true) × Part g s d)
    unfolding keeps marks_by
    keeps_marked j z m = by_mark (ends_epoch g.kind (offset g s)) refl m
      where
        by_mark : (b : Bool) → ends_epoch g.kind (offset g s) ≡ b
            → mark_in (cond b (marked_at marks (epochs_in g.kind (offset g s))) marks) (d / frames g.kind) ≡ true
            → (mark_in marks (d / frames g.kind) ≡ true) ⊎ ((ends_epoch g.kind (offset g s) ≡ true) × Part g s d)
        by_mark true ends m =
            ⊎_elim
            (λ (a : 128 ≤ d / frames g.kind).
            never (sym (mark_beyond (marked_at marks (epochs_in g.kind (offset g s))) (d / frames g.kind) (sixteen_marked marks k.row (epochs_in g.kind (offset g s))).len a) ∙ m))
            (λ (a : d / frames g.kind < 128).
            ⊎_elim (λ (t : mark_in marks (d / frames g.kind) ≡ true). inl t)
            (λ (t : eqb (d / frames g.kind) (epochs_in g.kind (offset g s)) ≡ true).
            let q = epoch_ended g.kind d (offset g s) round ends z (eqb-true (d / frames g.kind) (epochs_in g.kind (offset g s)) t) in
            inr (ends, part j q.0 q.1))
            (or_cases (mark_in marks (d / frames g.kind)) (eqb (d / frames g.kind) (epochs_in g.kind (offset g s)))
            (sym (mark_marked marks k.row (epochs_in g.kind (offset g s)) (d / frames g.kind) a) ∙ m)))
            (le_or_lt 128 (d / frames g.kind))
        by_mark false ends m = inl m

    pub keeps_part : flag_of s.joined ≡ true → d ≢ offset g s → Part g (keeps g s run e).step d → Part g s d
    unfolding keeps
    keeps_part j z p =
        let from : frames g.kind * ((offset g s + 1) / frames g.kind) ≤ d = rw next_offset at p.from in
        let upto : d < offset g s + 1 = rw next_offset at p.upto in
        part j (part_before g.kind d (offset g s) from) (omega arith)

    keeps_stays : flag_of s.joined ≡ true → Stays (keeps g s run e)
    unfolding keeps
    keeps_stays j c =
        ⊎_elim (λ (z : d ≡ e). inl (record { kept = refl; at = z; next = refl; unflagged = f; answer = refl }))
        (λ (z : d ≢ e). inr (record { claims = record { begun = c.begun; has = old z }; apart = λ y. z })) (eq_or_ne d e)
      where
        old : d ≢ offset g s → (mark_in marks (d / frames g.kind) ≡ true) ⊎ Part g s d
        old z =
            ⊎_elim
            (λ (m : mark_in (marks_by g.kind marks (keeps g s run e)) (d / frames g.kind) ≡ true).
            ⊎_elim (λ (t : mark_in marks (d / frames g.kind) ≡ true). inl t)
            (λ (t : (ends_epoch g.kind (offset g s) ≡ true) × Part g s d). inr t.1) (keeps_marked j z m))
            (λ (p : Part g (keeps g s run e).step d). inr (keeps_part j z p))
            c.has

    -- and after the frame with which it joins
    pub joins_marked : mark_in (marks_by g.kind marks (joining g s run e)) (d / frames g.kind) ≡ true → (mark_in marks (d / frames g.kind) ≡ true) × (d ≢ offset g s)
    unfolding joining marks_by
    joins_marked m =
        let both_hold : (mark_in marks (d / frames g.kind) && ltb (d / frames g.kind) (epochs_in g.kind (offset g s))) ≡ true =
        sym (mark_cut marks k.row (epochs_in g.kind (offset g s)) (d / frames g.kind)) ∙ m in
        let l = ltb-true (d / frames g.kind) (epochs_in g.kind (offset g s)) (and_right (mark_in marks (d / frames g.kind)) (ltb (d / frames g.kind) (epochs_in g.kind (offset g s))) both_hold) in
        (and_left (mark_in marks (d / frames g.kind)) (ltb (d / frames g.kind) (epochs_in g.kind (offset g s))) both_hold, epoch_cut g.kind d (offset g s) round l)

    pub joins_part : starts_epoch g.kind s.next ≡ true → Part g (joining g s run e).step d → d ≡ offset g s
    unfolding joining
    joins_part start p =
        let epochs : frames g.kind * epochs_in g.kind (offset g s) ≡ offset g s = whole_epochs g.kind (offset g s) round (start_place g s.next start) in
        let from : offset g s ≤ d = rw epochs at p.joined_at in
        let upto : d < offset g s + 1 = rw next_offset at p.upto in
        omega arith

    joins_stays : starts_epoch g.kind s.next ≡ true → Stays (joining g s run e)
    unfolding joining
    joins_stays start c =
        ⊎_elim
        (λ (m : mark_in (marks_by g.kind marks (joining g s run e)) (d / frames g.kind) ≡ true).
        let q = joins_marked m in
        inr (record { claims = record { begun = c.begun; has = inl q.0 }; apart = λ y. q.1 }))
        (λ (p : Part g (joining g s run e).step d). inl (record { kept = refl; at = joins_part start p; next = refl; unflagged = f; answer = refl }))
        c.has

  pub taken_claims : Stays (taken_of g s failed odd h)
  taken_claims =
      taken_by Stays g s failed odd h
      (λ f. flagged_stays)
      (λ f e. counts_stays (ran_on g s odd h))
      (λ f e b. dropped_stays (ran_on g s odd h) (λ t. clash (flag_of g.begun) t b))
      (λ f e b j w. keeps_stays f e w j)
      (λ f e b j w. outside_stays)
      (λ f e b j t w. joins_stays f e w t)
      (λ f e b j w. dropped_stays (ran_on g s odd h) (λ t. j))

-- a frame that is stored lies in the window
pub taken_inside : (g : Group) (s : Step) (failed odd : Bool) (h : ℕ) → is_kept (taken_of g s failed odd h) ≡ true → kept_at (taken_of g s failed odd h) < g.window
unfolding flagged counts_on frame_dropped keeps outside joining
taken_inside g s failed odd h =
    taken_by (λ (t : Taken). is_kept t ≡ true → (kept_at t) < g.window) g s failed odd h
    (λ f e. absurd (false≢true e))
    (λ f o e. absurd (false≢true e))
    (λ f o b e. absurd (false≢true e))
    (λ f o b j w e. ltb-true (offset g s) g.window w)
    (λ f o b j w e. absurd (false≢true e))
    (λ f o b j t w e. ltb-true (offset g s) g.window w)
    (λ f o b j w e. absurd (false≢true e))
