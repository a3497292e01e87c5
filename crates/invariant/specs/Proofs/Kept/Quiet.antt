-- A frame after which nothing is settled leaves nothing to settle (R-7): it makes no port silent and lets no epoch pass that was not let pass before.
use Rattle.std.specs.Prelude.{◌≡◌, ◌≢◌, Bool, not, ◌&&◌, ◌||◌, eqb}
use Rattle.std.proofs.Math.Path.{refl, sym}
use Rattle.std.proofs.Common.{◌∙◌, true≢false, arith, ltb-true, ne_eqb}
use Rattle.std.proofs.Math.Logic.{⊎_elim}
use Rattle.std.proofs.Math.Bool.{true, false, cond, and-false, or-false}
use mathlib.Core.List.{List}
use Prim.Native.Nat.{ℕ, ◌*◌}
use Rattle.std.proofs.lemmas.Bool.{eqb-false, lt-leb, not-false}
use Rattle.invariant.specs.Kept.Port.{PortKept, Windowed, offset}
use Rattle.invariant.specs.Proofs.Laws.Flags.{true_or_false}
use Rattle.invariant.specs.Proofs.Laws.Window.{no_offset}
use Rattle.ground.specs.Truth.{clash, neither, or_cases}
use Rattle.packet.specs.Kinds.{ends_epoch, epochs_in, frames}
use Rattle.packet.specs.Laws.Epochs.{none_in}
use Rattle.packet.specs.Theorems.Tags.{frames_some}
use Rattle.phases.specs.Due.{owes_nothing}
use Rattle.receiver.specs.Frame.{marks_by}
use Rattle.rows.specs.declared.group.Group.{Group}
use Rattle.rows.specs.declared.step.Step.{Step}
use Rattle.step.specs.Arrival.{advanced, frame_dropped, counts_on, flag_of, flagged, in_step, joined_at, joining, keeps, outside, readable, taken_of}
use Rattle.step.specs.declared.arrival.Taken.{Taken}
use Rattle.step.specs.declared.run.Run.{Run}
use Rattle.step.specs.Laws.Arrival.{in_window, ran_on, stepped, taken_by}
use Rattle.step.specs.Run.{in_step_at}
use Rattle.store.specs.Laws.Marks.{first_mark_lem, mark_cut, mark_marked}
use Rattle.store.specs.Marks.{cut_from, first_mark, mark_in, marked_at}

none_step : (kind : ℕ) → in_step_at kind 0 ≡ false
unfolding in_step_at
none_step kind = let some = frames_some kind in lt-leb (frames kind * 2) 0 (omega arith)

-- of a frame's effect on its port
pub record Quiet (g : Group) (s : Step) (marks : List ℕ) (t : Taken) : Type 0 where
  pub begun : flag_of g.begun ≡ true
  pub heard : readable g s ≡ true → readable g t.step ≡ true
  pub owes_nothing : flag_of g.gathered ≡ false → owes_nothing g t.step (marks_by g.kind marks t) ≡ true → owes_nothing g s marks ≡ true

module _ (g : Group) (s : Step) (marks : List ℕ) (W : Windowed g) (k : PortKept g s marks) where
  -- a port out of step has not joined and does not wait to
  unreadable : in_step g s ≡ false → readable g s ≡ false
  unfolding readable
  unreadable e = go (flag_of g.begun) (in_step g s) e
    where
      go : (a b : Bool) → b ≡ false → (a && b && (flag_of s.joined || flag_of s.ever_since)) ≡ false
      go true b e = rw e refl
      go false b e = refl

  lets_out : readable g s ≡ false → owes_nothing g s marks ≡ true
  unfolding owes_nothing
  lets_out e = rw e refl

  -- lost without having been in step
  module _ (now : Bool) (off : now ≡ false) (quiet : (not (flag_of g.begun) || in_step g s && not now) ≡ false) where
    quiet_begun : flag_of g.begun ≡ true
    quiet_begun = not-false (flag_of g.begun) (neither (not (flag_of g.begun)) (in_step g s && not now) quiet).0

    quiet_out : in_step g s ≡ false
    quiet_out = go (in_step g s) (neither (not (flag_of g.begun)) (in_step g s && not now) quiet).1
      where
        go : (b : Bool) → (b && not now) ≡ false → b ≡ false
        go true e = absurd (true≢false (sym (rw off refl) ∙ e))
        go false e = refl

  out : (t : Taken) → flag_of g.begun ≡ true → in_step g s ≡ false → Quiet g s marks t
  out t b e =
      record {
        begun = b;
        heard = λ r. clash (readable g s) r (unreadable e);
        owes_nothing = λ f l. lets_out (unreadable e);
      }

  flagged_quiet : (flagged g s).settles ≡ false → Quiet g s marks (flagged g s)
  unfolding flagged in_step
  flagged_quiet q =
      let off = none_step g.kind in
      out (flagged g s) (quiet_begun (in_step_at g.kind 0) off q) (quiet_out (in_step_at g.kind 0) off q)

  module _ (odd : Bool) (h : ℕ) where
    abbrev run : Run
    run = ran_on g s odd h

    counts_quiet : stepped g s odd h ≡ false → (counts_on g s run).settles ≡ false → Quiet g s marks (counts_on g s run)
    unfolding counts_on in_step
    counts_quiet off q = out (counts_on g s run) (quiet_begun (stepped g s odd h) off q) (quiet_out (stepped g s odd h) off q)

    module _ (on : stepped g s odd h ≡ true) (begun : flag_of g.begun ≡ true) where
      -- in step now; before it was, if it had joined or waited to
      same_readable : readable g (advanced s run) ≡ readable g s
      unfolding readable in_step
      same_readable = go (flag_of s.joined || flag_of s.ever_since) refl
        where
          was : (flag_of s.joined || flag_of s.ever_since) ≡ true → in_step g s ≡ true
          was e =
              ⊎_elim (λ (j : flag_of s.joined ≡ true). k.joined_step j) (λ (j : flag_of s.ever_since ≡ true). k.since_step j)
              (or_cases (flag_of s.joined) (flag_of s.ever_since) e)

          go : (b : Bool) → (flag_of s.joined || flag_of s.ever_since) ≡ b
              → (flag_of g.begun && stepped g s odd h && b) ≡ (flag_of g.begun && in_step g s && b)
          go true e = rw (on, was e) refl
          go false e = rw (and-false (flag_of g.begun && stepped g s odd h), and-false (flag_of g.begun && in_step g s)) refl

      same_lets : (m : List ℕ) → first_mark m ≡ first_mark marks → owes_nothing g (advanced s run) m ≡ owes_nothing g s marks
      unfolding owes_nothing
      same_lets m e = rw (same_readable, e) refl

      dropped_quiet : Quiet g s marks (frame_dropped g s run)
      unfolding frame_dropped marks_by
      dropped_quiet = record { begun = begun; heard = λ r. same_readable ∙ r; owes_nothing = λ f l. sym (same_lets marks refl) ∙ l }

      -- a frame of a joined port
      keeps_quiet : (keeps g s run (offset g s)).settles ≡ false → Quiet g s marks (keeps g s run (offset g s))
      unfolding keeps marks_by
      keeps_quiet q =
          record {
            begun = begun;
            heard = λ r. same_readable ∙ r;
            owes_nothing = λ f l. sym (same_lets marked (first (rw f at q))) ∙ l;
          }
        where
          marked : List ℕ
          marked = cond (ends_epoch g.kind (offset g s)) (marked_at marks (epochs_in g.kind (offset g s))) marks

          first : (ends_epoch g.kind (offset g s) && eqb (epochs_in g.kind (offset g s)) 0) ≡ false → first_mark (cond (ends_epoch g.kind (offset g s)) (marked_at marks (epochs_in g.kind (offset g s))) marks) ≡ first_mark marks
          first e = go (ends_epoch g.kind (offset g s)) e
            where
              last : ℕ
              last = epochs_in g.kind (offset g s)

              go : (b : Bool) → (b && eqb (epochs_in g.kind (offset g s)) 0) ≡ false → first_mark (cond b (marked_at marks (epochs_in g.kind (offset g s))) marks) ≡ first_mark marks
              go true e =
                  let n : epochs_in g.kind (offset g s) ≢ 0 = eqb-false (epochs_in g.kind (offset g s)) 0 e in
                  rw (first_mark_lem (marked_at marks (epochs_in g.kind (offset g s))), mark_marked marks k.row (epochs_in g.kind (offset g s)) 0 (omega arith), ne_eqb 0 (epochs_in g.kind (offset g s)) (λ z. n (sym z)), or-false (mark_in marks 0))
                  (sym (first_mark_lem marks))
              go false e = refl

      joined_lets : (later : ℕ) (m : List ℕ) → owes_nothing g (joined_at s run later) m ≡ (first_mark m || flag_of later)
      unfolding owes_nothing readable in_step
      joined_lets later m = rw (begun, on) refl

      apart : flag_of s.joined ≡ false → flag_of s.ever_since ≡ false → readable g s ≡ false
      unfolding readable
      apart j i = rw (j, i) (and-false (flag_of g.begun && in_step g s))

      -- a port that joins: if it waited to, it joins at this very epoch, and has not brought it
      joins_quiet : flag_of s.joined ≡ false → in_window g s ≡ true → Quiet g s marks (joining g s run (offset g s))
      unfolding joining marks_by readable in_step
      joins_quiet j w =
          record {
            begun = begun;
            heard = λ r. rw (begun, on) refl;
            owes_nothing = λ f l.
                ⊎_elim (λ (i : flag_of s.ever_since ≡ true). absurd (true≢false (sym l ∙ joined_lets last (cut_from marks last) ∙ stuck i)))
                (λ (i : flag_of s.ever_since ≡ false). lets_out (apart j i)) (true_or_false (flag_of s.ever_since));
          }
        where
          last : ℕ
          last = epochs_in g.kind (offset g s)

          stuck : flag_of s.ever_since ≡ true → (first_mark (cut_from marks (epochs_in g.kind (offset g s))) || flag_of (epochs_in g.kind (offset g s))) ≡ false
          stuck i =
              let o = k.waits i j in
              let z : offset g s ≡ 0 = no_offset g s.next g.window W.most (ltb-true (offset g s) g.window w) o.short in
              let e : epochs_in g.kind (offset g s) ≡ 0 = rw z (none_in g.kind) in
              rw (e, first_mark_lem (cut_from marks 0), mark_cut marks k.row 0 0, o.empty 0) refl

dropped_begun : (g : Group) (s : Step) (run : Run) → (frame_dropped g s run).settles ≡ false → flag_of g.begun ≡ true
unfolding frame_dropped
dropped_begun g s run q = not-false (flag_of g.begun) q

outside_quiet : (g : Group) (s : Step) (marks : List ℕ) → flag_of g.begun ≡ true → Quiet g s marks (outside s)
unfolding outside marks_by
outside_quiet g s marks b = record { begun = b; heard = λ r. r; owes_nothing = λ f l. l }

pub taken_quiet : (g : Group) (s : Step) (marks : List ℕ) (failed odd : Bool) (h : ℕ) → Windowed g → PortKept g s marks → (taken_of g s failed odd h).settles ≡ false
    → Quiet g s marks (taken_of g s failed odd h)
taken_quiet g s marks failed odd h W k =
    taken_by (λ (t : Taken). t.settles ≡ false → Quiet g s marks t) g s failed odd h
    (λ f. flagged_quiet g s marks W k)
    (λ f e. counts_quiet g s marks W k odd h e)
    (λ f e b q. clash (flag_of g.begun) (dropped_begun g s (ran_on g s odd h) q) b)
    (λ f e b j w. keeps_quiet g s marks W k odd h e b)
    (λ f e b j w q. outside_quiet g s marks b)
    (λ f e b j t w q. joins_quiet g s marks W k odd h e b j w)
    (λ f e b j w q. dropped_quiet g s marks W k odd h e b)
