-- What a port claims of the store has the bits of its epoch's number: of the epochs that are marked, and as far as they have come of the one under way. Through a frame, and as an epoch is passed.
-- The idea: a frame is put in step alone. It brings one bit of the count so far, and the fifth bit is in step only where the five are the number of the epoch; an epoch is marked with its last frame, which comes behind the fifth.
use Rattle.std.specs.Prelude.{◌≡◌, ◌≢◌, Bool, cond, List, ℕ, ◌+◌, ◌/◌, ◌<◌}
use Rattle.std.proofs.Math.Path.{refl}
use Rattle.std.proofs.Common.{sym, ◌∙◌, arith}
use Rattle.std.proofs.Math.Logic.{⊎_elim}
use Rattle.std.proofs.Math.Bool.{true, false}
use Rattle.ground.specs.Truth.{clash, eq_or_ne}
use Rattle.invariant.specs.Claims.{Part, tag_in}
use Rattle.invariant.specs.Kept.Port.{NoMark, PortKept, Windowed, offset}
use Rattle.invariant.specs.Proofs.Claims.{joins_marked, joins_part, keeps_marked, keeps_part, passed_marked, passed_part}
use Rattle.invariant.specs.Proofs.Laws.Flags.{never, off_flag}
use Rattle.invariant.specs.Proofs.Laws.Window.{tag_next, tag_passed}
use Rattle.packet.specs.Kinds.{ends_epoch, epochs_in, frames, starts_epoch}
use Rattle.packet.specs.Laws.Epochs.{in_epoch, later_reached, still_comes}
use Rattle.phases.specs.Due.{owes_nothing}
use Rattle.phases.specs.Passing.{passed_group, passed_step}
use Rattle.receiver.specs.Frame.{marks_by}
use Rattle.receiver.specs.Laws.Passed.{passed_kind, passed_oldest}
use Rattle.receiver.specs.Laws.Told.{with_ack}
use Rattle.rows.specs.declared.group.Group.{Group}
use Rattle.rows.specs.declared.step.Step.{Step}
use Rattle.step.specs.Arrival.{counts_on, distance_in, flag_of, flagged, frame_dropped, joining, keeps, outside, run_of, taken_of, is_kept, kept_at}
use Rattle.step.specs.declared.arrival.Taken.{Taken}
use Rattle.step.specs.declared.run.Run.{Run}
use Rattle.step.specs.Laws.Arrival.{in_window, ran_on, stepped, taken_by}
use Rattle.step.specs.Laws.OwnBits.{Earlier, Own, Told, earlier_in, ends_in_lem, own_end, told_end, told_new, told_on_lem}
use Rattle.step.specs.Run.{ends_packet}
use Rattle.store.specs.Marks.{first_mark, mark_in, marked_at, passed_marks}

-- of a port whose frames have these bytes, by how far they lie after the window's first
pub record Bits (g : Group) (s : Step) (marks : List ℕ) (byte : ℕ → ℕ) : Type 0 where
  pub marked : (d : ℕ) → mark_in marks (d / frames g.kind) ≡ true → Own g.kind (tag_in g d) (byte d)
  pub under : (d : ℕ) → Part g s d → Told g.kind (run_of s) (tag_in g d) (byte d)

-- nothing is claimed
pub none_bits : (g : Group) (s : Step) (marks : List ℕ) (byte : ℕ → ℕ) → s.joined ≡ 0 → NoMark marks → Bits g s marks byte
none_bits g s marks byte off none =
    record { marked = λ d m. never (sym (none (d / frames g.kind)) ∙ m); under = λ d p. never (sym (off_flag s.joined off) ∙ p.joined) }

pub ack_bits : (g : Group) (ack : ℕ) (s : Step) (marks : List ℕ) (byte then : ℕ → ℕ) → ((d : ℕ) → then d ≡ byte d) → Bits g s marks byte → Bits (with_ack g ack) s marks then
unfolding tag_in distance_in
ack_bits g ack s marks byte then same b =
    record {
      marked = λ d m. rw (same d) (b.marked d m);
      under = λ d p. rw (same d) (b.under d (record { joined = p.joined; joined_at = p.joined_at; from = p.from; upto = p.upto }));
    }

-- an epoch passed
pub passed_bits : (g : Group) (s : Step) (marks : List ℕ) → PortKept g s marks → flag_of g.begun ≡ true → owes_nothing g s marks ≡ true → (byte then : ℕ → ℕ)
    → ((d : ℕ) → then d ≡ byte (d + frames g.kind)) → Bits g s marks byte → Bits (passed_group g) (passed_step s (first_mark marks)) (passed_marks marks) then
unfolding passed_group passed_step
passed_bits g s marks k begun due byte then moved b =
    record {
      marked = λ d m. rw (tag_passed g (passed_group g) d (passed_kind g) (passed_oldest g), moved d) (b.marked (d + frames g.kind) (passed_marked g s marks k begun due d m));
      under = λ d p. rw (tag_passed g (passed_group g) d (passed_kind g) (passed_oldest g), moved d) (b.under (d + frames g.kind) (passed_part g s marks k begun due d p));
    }

module _ (g : Group) (s : Step) (marks : List ℕ) (k : PortKept g s marks) where
  mark_inside : (d : ℕ) → mark_in marks (d / frames g.kind) ≡ true → d < g.window
  mark_inside d m = in_epoch g.kind d g.window (k.inside (d / frames g.kind) m)

  part_inside : (d : ℕ) → Part g s d → d < g.window
  part_inside d p = let l = p.upto in let r = (k.goes p.joined).reach in omega arith

  -- the frames of the window as they were
  pub same_bits_lem : (byte then : ℕ → ℕ) → ((d : ℕ) → d < g.window → then d ≡ byte d) → Bits g s marks byte → Bits g s marks then
  same_bits_lem byte then same b = record { marked = λ d m. rw (same d (mark_inside d m)) (b.marked d m); under = λ d p. rw (same d (part_inside d p)) (b.under d p) }

-- a frame of the port itself
module _ (g : Group) (s : Step) (marks : List ℕ) (failed odd : Bool) (h : ℕ) (W : Windowed g) (k : PortKept g s marks) (byte : ℕ → ℕ) (b : Bits g s marks byte) (then : ℕ → ℕ) where
  -- one that is stored puts its byte, and all others stay
  abbrev Goes : Taken → Type 0
  Goes t = (is_kept t ≡ true → then (kept_at t) ≡ h) → ((d : ℕ) → d < g.window → (is_kept t ≡ true → d ≢ (kept_at t)) → then d ≡ byte d) → Bits g t.step (marks_by g.kind marks t) then

  marks_stay : ((d : ℕ) → d < g.window → then d ≡ byte d) → (d : ℕ) → mark_in marks (d / frames g.kind) ≡ true → Own g.kind (tag_in g d) (then d)
  marks_stay rest = (same_bits_lem g s marks k byte then rest b).marked

  abbrev e : ℕ
  e = offset g s

  next_is : tag_in g e ≡ s.next
  next_is = tag_next g s.next k.run.tag

  flagged_goes : Goes (flagged g s)
  unfolding flagged marks_by
  flagged_goes put rest = record { marked = marks_stay (λ d l. rest d l (λ y. never y)); under = λ d p. never p.joined }

  counts_goes : (run : Run) → Goes (counts_on g s run)
  unfolding counts_on marks_by
  counts_goes run put rest = record { marked = marks_stay (λ d l. rest d l (λ y. never y)); under = λ d p. never p.joined }

  dropped_goes : (run : Run) → flag_of s.joined ≡ false → Goes (frame_dropped g s run)
  unfolding frame_dropped marks_by
  dropped_goes run off put rest = record { marked = marks_stay (λ d l. rest d l (λ y. never y)); under = λ d p. clash (flag_of s.joined) p.joined off }

  outside_goes : Goes (outside s)
  unfolding outside marks_by
  outside_goes put rest =
      same_bits_lem g s marks k byte then (λ d l. rest d l (λ y. never y)) b

  module _ (f : failed ≡ false) (on : stepped g s odd h ≡ true) (w : in_window g s ≡ true) where
    abbrev run : Run
    run = ran_on g s odd h

    -- the frame that comes
    new : (d : ℕ) → d ≡ e → then e ≡ h → Told g.kind (ran_on g s odd h) (tag_in g d) (then d)
    new d z put = rw (z, next_is, put) (told_new g.kind (run_of s) odd h on)

    module _ (j : flag_of s.joined ≡ true) where
      earlier : (d : ℕ) → Part g s d → Earlier g.kind (tag_in g d) s.next
      unfolding tag_in
      earlier d p = rw next_is at (earlier_in g.kind g.oldest d e p.from p.upto)

      last : ends_epoch g.kind (offset g s) ≡ true → ends_packet g.kind s.next ≡ true
      unfolding tag_in
      last ends = rw next_is at (ends_in_lem g.kind g.oldest e ends)

      -- the epoch under way is not marked
      unmarked : mark_in marks (offset g s / frames g.kind) ≡ false
      unmarked =
          let o = k.goes j in
          o.marked (e / frames g.kind) (later_reached g.kind s.joined_at e o.passed) ∙ still_comes g.kind e

      ended : mark_in (marks_by g.kind marks (keeps g s run e)) (offset g s / frames g.kind) ≡ true → ends_epoch g.kind (offset g s) ≡ true
      unfolding keeps marks_by
      ended m = go (ends_epoch g.kind e) refl m
        where
          go : (q : Bool) → ends_epoch g.kind (offset g s) ≡ q → mark_in (cond q (marked_at marks (epochs_in g.kind (offset g s))) marks) (offset g s / frames g.kind) ≡ true
              → ends_epoch g.kind (offset g s) ≡ true
          go true ends m = ends
          go false ends m = never (sym unmarked ∙ m)

      keeps_goes : Goes (keeps g s run e)
      unfolding keeps
      keeps_goes put rest =
          record {
            marked = λ d m.
                ⊎_elim
                (λ (z : d ≡ e). rw (z, next_is) (own_end g.kind s.next (then e) (last (ended (rw z at m)))))
                (λ (z : d ≢ e).
                ⊎_elim
                (λ (t : mark_in marks (d / frames g.kind) ≡ true). rw (rest d (mark_inside g s marks k d t) (λ y. z)) (b.marked d t))
                (λ (t : (ends_epoch g.kind (offset g s) ≡ true) × Part g s d).
                rw (rest d (part_inside g s marks k d t.1) (λ y. z)) (told_end g.kind (run_of s) (last t.0) (tag_in g d) (byte d) (b.under d t.1)))
                (keeps_marked g s marks failed odd h W k d f on w j z m))
                (eq_or_ne d e);
            under = λ d p.
                ⊎_elim
                (λ (z : d ≡ e). new d z (put refl))
                (λ (z : d ≢ e).
                let q : Part g s d = keeps_part g s marks failed odd h W k d f on w j z p in
                rw (rest d (part_inside g s marks k d q) (λ y. z)) (told_on_lem g.kind (run_of s) odd h on (tag_in g d) (byte d) (earlier d q) (b.under d q)))
                (eq_or_ne d e);
          }

    joins_goes : starts_epoch g.kind s.next ≡ true → Goes (joining g s run e)
    unfolding joining
    joins_goes start put rest =
        record {
          marked = λ d m.
              let q = joins_marked g s marks failed odd h W k d f on w m in
              rw (rest d (mark_inside g s marks k d q.0) (λ y. q.1)) (b.marked d q.0);
          under = λ d p. new d (joins_part g s marks failed odd h W k d f on w start p) (put refl);
        }

  pub taken_bits : Goes (taken_of g s failed odd h)
  taken_bits =
      taken_by Goes g s failed odd h
      (λ f. flagged_goes)
      (λ f o. counts_goes (ran_on g s odd h))
      (λ f o off. dropped_goes (ran_on g s odd h) (off_flag s.joined (k.idle off).joined))
      (λ f o on j w. keeps_goes f o w j)
      (λ f o on j w. outside_goes)
      (λ f o on j t w. joins_goes f o w t)
      (λ f o on j w. dropped_goes (ran_on g s odd h) j)
