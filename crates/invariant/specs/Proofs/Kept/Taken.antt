-- What a frame leaves of its port keeps what is kept of ports (`taken_kept`): each case of taken_of.
-- The idea: a port out of step has not joined and waits for nothing, so only what holds of every port is asked of it. In step the next tag goes on by one. Inside the window the distance from its first grows by one, and marks and joining go by it; a port still before the window is one frame nearer (`short_next`); a frame outside leaves all as it was.
use Rattle.std.specs.Prelude.{◌≡◌, ◌≢◌, Bool, true, false, cond, ◌&&◌, List, ℕ, ◌+◌, ◌*◌, ◌%◌, ◌≤◌, ◌<◌, eqb, leb, ltb}
use Rattle.std.proofs.Math.Path.{refl}
use Rattle.std.proofs.Common.{sym, ◌∙◌, ⊎_elim, true≢false, arith}
use Rattle.std.proofs.Math.Bool.{and-false}
use borrow.Author.Tests.{ltb-true, lt-ltb, le-ltb, eqb-true}
use Rattle.store.specs.Laws.Marks.{mark_beyond, mark_cut, mark_marked, sixteen_cut, sixteen_marked}
use Rattle.store.specs.Marks.{Sixteen, mark_in, marked_at}
use Rattle.invariant.specs.Kept.Port.{Joined, PortKept, Waiting, Windowed, end_of, offset, short_of}
use Rattle.invariant.specs.Proofs.Laws.Flags.{flag_on, never}
use Rattle.step.specs.Laws.RunKept.{ended_kept, run_kept}
use Rattle.invariant.specs.Proofs.Laws.Window.{at_base, distance_next, no_offset, short_next, start_place}
use Rattle.ground.specs.Truth.{and_left, and-true, clash, le_or_lt, or_cases}
use Rattle.packet.specs.Kinds.{ends_epoch, epochs_in, frames, starts_epoch, tag_after, tags}
use Rattle.packet.specs.Laws.Epochs.{beyond_marks, ends_last, ends_more, ends_same, none_ended, none_in, whole_epochs}
use Rattle.packet.specs.Theorems.Tags.{frames_two}
use Rattle.receiver.specs.Frame.{marks_by}
use Rattle.rows.specs.declared.group.Group.{Group}
use Rattle.rows.specs.declared.step.Step.{Step}
use Rattle.step.specs.Arrival.{advanced, frame_dropped, counts_on, distance_in, flag_of, flagged, in_step, joining, keeps, lost, outside, run_of, taken_of}
use Rattle.step.specs.Theorems.Lost.{run_goes_on}
use Rattle.step.specs.declared.arrival.Taken.{Taken}
use Rattle.step.specs.declared.run.Run.{Run}
use Rattle.step.specs.Laws.Arrival.{in_window, ran_on, stepped, taken_by}
use Rattle.step.specs.Run.{no_run, with_bits}
use Rattle.invariant.specs.Kept.Run.{RunKept}

-- a port without step
lost_kept : (g : Group) (s : Step) (marks : List ℕ) (failed : ℕ) (run : Run) → failed ≤ 1 → RunKept g.kind run → (failed ≢ 0 → run.count ≡ 0)
    → PortKept g s marks → PortKept g (lost s failed run) marks
lost_kept g s marks failed run f r none k =
    record {
      row = k.row;
      run = r;
      heard = omega arith;
      failed = f;
      joined = omega arith;
      ever_since = omega arith;
      whole = k.whole;
      joined_step = never;
      since_step = never;
      failed_none = λ e. none (flag_on failed e);
      failed_had = λ e. refl;
      count_had = λ l. refl;
      idle = λ b. record { joined = refl; ever_since = refl; joined_at = refl; whole = (k.idle b).whole; empty = (k.idle b).empty };
      goes = never;
      inside = k.inside;
      at_once = λ e. refl;
      waits = never;
      early = never;
    }

module _ (g : Group) (s : Step) (marks : List ℕ) (W : Windowed g) (k : PortKept g s marks) where
  abbrev Keeps : Taken → Type 0
  Keeps t = PortKept g t.step (marks_by g.kind marks t)

  flagged_keeps : Keeps (flagged g s)
  unfolding flagged marks_by
  flagged_keeps = lost_kept g s marks 1 (with_bits s.bits no_run) (omega arith) (ended_kept g.kind s.bits k.run.bits) (λ n. refl) k

  outside_keeps : Keeps (outside s)
  unfolding outside marks_by
  outside_keeps = k

  module _ (odd : Bool) (h : ℕ) where
    abbrev run : Run
    run = ran_on g s odd h

    ran : RunKept g.kind run
    ran = run_kept g.kind (run_of s) odd h k.run

    counts_keeps : Keeps (counts_on g s run)
    unfolding counts_on marks_by
    counts_keeps = lost_kept g s marks 0 run (omega arith) ran (λ n. absurd (n refl)) k

    module _ (on : stepped g s odd h ≡ true) where
      after : run.next ≡ tag_after g.kind s.next
      after = run_goes_on g.kind (run_of s) odd h on

      -- in step, and all else that does not look at the window
      abbrev d : ℕ
      d = offset g s

      dropped_keeps : (flag_of s.ever_since ≡ true → flag_of s.joined ≡ false → Waiting g (advanced s run) marks) → (flag_of s.joined ≡ false) → Keeps (frame_dropped g s run)
      unfolding frame_dropped marks_by in_step
      dropped_keeps w j =
          record {
            row = k.row;
            run = ran;
            heard = omega arith;
            failed = omega arith;
            joined = k.joined;
            ever_since = k.ever_since;
            whole = k.whole;
            joined_step = λ e. on;
            since_step = λ e. on;
            failed_none = never;
            failed_had = λ e. refl;
            count_had = λ l. refl;
            idle = λ b. let i = k.idle b in record { joined = i.joined; ever_since = i.ever_since; joined_at = i.joined_at; whole = i.whole; empty = i.empty };
            goes = λ e. clash (flag_of s.joined) e j;
            inside = k.inside;
            at_once = k.at_once;
            waits = w;
            early = k.early;
          }

      -- before the beginning
      before_keeps : flag_of g.begun ≡ false → Keeps (frame_dropped g s run)
      before_keeps b =
          let i = k.idle b in
          dropped_keeps (λ e n. clash (flag_of s.ever_since) e (rw i.ever_since)) (rw i.joined)

      -- not joined, at a frame that is no epoch start in the window
      waits_keeps : flag_of s.joined ≡ false → (starts_epoch g.kind s.next && in_window g s) ≡ false → Keeps (frame_dropped g s run)
      waits_keeps j w = dropped_keeps waiting j
        where
          start : Bool
          start = starts_epoch g.kind s.next

          ahead : short_of g s ≢ 0
          ahead z =
              let a = at_base g s.next z in
              let room : 0 < g.window = (let least = W.least in let some = frames_two g.kind in omega arith) in
              clash (starts_epoch g.kind s.next && in_window g s)
              (and-true (starts_epoch g.kind s.next) (in_window g s) a.0 (lt-ltb d g.window (rw a.1 room))) w

          waiting : flag_of s.ever_since ≡ true → flag_of s.joined ≡ false → Waiting g (advanced s run) marks
          waiting e n =
              let o = k.waits e n in
              let near = o.short in
              let one : 0 < short_of g s = (let a = ahead in omega arith) in
              let next = short_next g s.next one in
              record { gathered = o.gathered; short = rw after (omega arith); empty = o.empty }

      module _ (in_window : in_window g s ≡ true) where
        low : d < g.window
        low = ltb-true d g.window in_window

        round : d < tags g.kind
        round = let most = W.most in let l = low in omega arith

        next_offset : distance_in g run.next ≡ d + 1
        next_offset = rw after (distance_next g s.next (let most = W.most in let l = low in let some = W.least in let more = frames_two g.kind in omega arith))

        -- a frame of a joined port
        keeps_keeps : flag_of g.begun ≡ true → flag_of s.joined ≡ true → Keeps (keeps g s run d)
        unfolding keeps marks_by in_step
        keeps_keeps b j = go (ends_epoch g.kind d) refl
          where
            goes : Joined g s marks
            goes = k.goes j

            with_marks_lem : (m : List ℕ) → Sixteen m → ((i : ℕ) → s.joined_at ≤ i → mark_in m i ≡ leb (end_of g i) (d + 1)) → ((i : ℕ) → mark_in m i ≡ true → end_of g i ≤ g.window)
                → PortKept g (advanced s run) m
            with_marks_lem m row marked inside =
                record {
                  row = row;
                  run = ran;
                  heard = omega arith;
                  failed = omega arith;
                  joined = k.joined;
                  ever_since = k.ever_since;
                  whole = k.whole;
                  joined_step = λ e. on;
                  since_step = λ e. on;
                  failed_none = never;
                  failed_had = λ e. refl;
                  count_had = λ l. refl;
                  idle = λ n. clash (flag_of g.begun) b n;
                  goes = λ e.
                      record {
                        reach = rw next_offset (let l = low in omega arith);
                        within = goes.within;
                        passed = λ z. rw next_offset (let l = goes.passed z in omega arith);
                        marked = λ i l. rw next_offset (marked i l);
                      };
                  inside = inside;
                  at_once = k.at_once;
                  waits = λ e n. clash (flag_of s.joined) j n;
                  early = k.early;
                }

            go : (t : Bool) → ends_epoch g.kind d ≡ t → PortKept g (advanced s run) (cond t (marked_at marks (epochs_in g.kind d)) marks)
            go true e = with_marks_lem (marked_at marks (epochs_in g.kind d)) (sixteen_marked marks k.row (epochs_in g.kind d)) marked inside
              where
                marked : (i : ℕ) → s.joined_at ≤ i → mark_in (marked_at marks (epochs_in g.kind d)) i ≡ leb (end_of g i) (d + 1)
                marked i l =
                    ⊎_elim
                    (λ (a : 128 ≤ i).
                    mark_beyond (marked_at marks (epochs_in g.kind d)) i (sixteen_marked marks k.row (epochs_in g.kind d)).len a
                    ∙ sym (beyond_marks g.kind i (d + 1) (let most = W.most in let l = low in omega arith) a))
                    (λ (a : i < 128).
                    mark_marked marks k.row (epochs_in g.kind d) i a ∙ (rw (goes.marked i l) refl) ∙ sym (ends_more g.kind i d round e))
                    (le_or_lt 128 i)

                inside : (i : ℕ) → mark_in (marked_at marks (epochs_in g.kind d)) i ≡ true → end_of g i ≤ g.window
                inside i m =
                    ⊎_elim
                    (λ (a : 128 ≤ i).
                    never (sym (mark_beyond (marked_at marks (epochs_in g.kind d)) i (sixteen_marked marks k.row (epochs_in g.kind d)).len a) ∙ m))
                    (λ (a : i < 128).
                    ⊎_elim (λ (t : mark_in marks i ≡ true). k.inside i t)
                    (λ (t : eqb i (epochs_in g.kind d) ≡ true).
                    rw (eqb-true i (epochs_in g.kind d) t) (let l = low in let last = ends_last g.kind d round e in omega arith))
                    (or_cases (mark_in marks i) (eqb i (epochs_in g.kind d)) (sym (mark_marked marks k.row (epochs_in g.kind d) i a) ∙ m)))
                    (le_or_lt 128 i)
            go false e = with_marks_lem marks k.row (λ i l. goes.marked i l ∙ sym (ends_same g.kind i d e)) k.inside

        -- a port that joins
        joins_keeps : flag_of g.begun ≡ true → flag_of s.joined ≡ false → starts_epoch g.kind s.next ≡ true → Keeps (joining g s run d)
        unfolding joining marks_by in_step
        joins_keeps b j start =
            let place : d % frames g.kind ≡ 0 = start_place g s.next start in
            let epochs : frames g.kind * epochs_in g.kind d ≡ d = whole_epochs g.kind d round place in
            record {
              row = sixteen_cut marks k.row (epochs_in g.kind d);
              run = ran;
              heard = omega arith;
              failed = omega arith;
              joined = omega arith;
              ever_since = k.ever_since;
              whole = k.whole;
              joined_step = λ e. on;
              since_step = λ e. on;
              failed_none = never;
              failed_had = λ e. refl;
              count_had = λ l. refl;
              idle = λ n. clash (flag_of g.begun) b n;
              goes = λ e.
                  record {
                    reach = rw next_offset (let l = low in omega arith);
                    within = rw epochs low;
                    passed = λ z. rw (epochs, next_offset) (omega arith);
                    marked = λ i l.
                        rw (mark_cut marks k.row (epochs_in g.kind d) i, next_offset, none_ended g.kind i d round place l, le-ltb i (epochs_in g.kind d) l) (and-false (mark_in marks i));
                  };
              inside = λ i m. k.inside i (and_left (mark_in marks i) (ltb i (epochs_in g.kind d)) (sym (mark_cut marks k.row (epochs_in g.kind d) i) ∙ m));
              at_once = λ e. absurd (true≢false e);
              waits = λ e n. absurd (true≢false n);
              early = λ e.
                  let o = k.waits e j in
                  let z : d ≡ 0 = no_offset g s.next g.window W.most low o.short in
                  rw z (none_in g.kind);
            }

-- what a frame leaves of its port
pub taken_kept : (g : Group) (s : Step) (marks : List ℕ) (failed odd : Bool) (h : ℕ) → Windowed g → PortKept g s marks
    → PortKept g (taken_of g s failed odd h).step (marks_by g.kind marks (taken_of g s failed odd h))
taken_kept g s marks failed odd h W k =
    taken_by (λ (t : Taken). PortKept g t.step (marks_by g.kind marks t)) g s failed odd h
    (λ f. flagged_keeps g s marks W k)
    (λ f e. counts_keeps g s marks W k odd h)
    (λ f e b. before_keeps g s marks W k odd h e b)
    (λ f e b j w. keeps_keeps g s marks W k odd h e w b j)
    (λ f e b j w. outside_keeps g s marks W k)
    (λ f e b j t w. joins_keeps g s marks W k odd h e w b j t)
    (λ f e b j w. waits_keeps g s marks W k odd h e j w)

-- and what rules stays
pub taken_whole : (g : Group) (s : Step) (failed odd : Bool) (h : ℕ) → (taken_of g s failed odd h).step.whole ≡ s.whole
unfolding flagged counts_on frame_dropped keeps outside joining
taken_whole g s failed odd h =
    taken_by (λ (t : Taken). t.step.whole ≡ s.whole) g s failed odd h (λ f. refl) (λ f e. refl) (λ f e b. refl) (λ f e b j w. refl) (λ f e b j w. refl)
    (λ f e b j t w. refl) (λ f e b j w. refl)
