-- A port as receiving stops, and as it begins.
use Rattle.std.specs.Prelude.{◌≡◌, Bool, cond, List, ℕ, ◌+◌, replicate}
use Rattle.std.proofs.Math.Path.{refl}
use Rattle.std.proofs.Common.{sym, ◌∙◌, true≢false, arith, leb-true}
use Rattle.std.proofs.Math.Bool.{true, false}
use Rattle.std.proofs.lemmas.Bool.{false≢true}
use Rattle.invariant.specs.Kept.Port.{PortKept, Waiting, Windowed}
use Rattle.invariant.specs.Proofs.Laws.Flags.{flag_le}
use Rattle.packet.specs.Kinds.{distance_of, epoch_after, epoch_of, frames, tag_before}
use Rattle.packet.specs.Laws.Distances.{arc_short}
use Rattle.phases.specs.Beginning.{latest, in_arc}
use Rattle.phases.specs.Passing.{group_to}
use Rattle.phases.specs.Settling.{cleared_step}
use Rattle.rows.specs.declared.group.Group.{Group}
use Rattle.rows.specs.declared.step.Step.{Step}
use Rattle.step.specs.Arrival.{flag_of, in_step}
use Rattle.store.specs.Laws.Marks.{mark_none, sixteen_none}

-- a group of the same kind and window, begun or not
module _ (g : Group) (s : Step) (marks : List ℕ) (k : PortKept g s marks) (begun oldest origin ack : ℕ) where
  abbrev h : Group
  h = group_to g begun 0 oldest origin ack

  cleared_kept : (since : Bool) → (since ≡ true → in_step g s ≡ true) → (flag_of begun ≡ false → since ≡ false)
      → (since ≡ true → Waiting h (cleared_step s since) (replicate 16 0)) → PortKept h (cleared_step s since) (replicate 16 0)
  unfolding cleared_step in_step
  cleared_kept since on off waits =
      record {
        row = sixteen_none;
        run = k.run;
        heard = k.heard;
        failed = k.failed;
        joined = omega arith;
        ever_since = flag_le since;
        whole = omega arith;
        joined_step = λ e. absurd (false≢true e);
        since_step = λ e. on (set since e);
        failed_none = k.failed_none;
        failed_had = k.failed_had;
        count_had = k.count_had;
        idle = λ b. record { joined = refl; ever_since = rw (off b); joined_at = refl; whole = refl; empty = mark_none };
        goes = λ e. absurd (false≢true e);
        inside = λ i m. absurd (false≢true (sym (mark_none i) ∙ m));
        at_once = λ e. refl;
        waits = λ e j. waits (set since e);
        early = λ e. refl;
      }
    where
      set : (b : Bool) → flag_of (cond b 1 0) ≡ true → b ≡ true
      set true e = refl
      set false e = e

pub stopped_kept : (g : Group) (s : Step) (marks : List ℕ) → PortKept g s marks → (origin ack : ℕ)
    → PortKept (group_to g 0 0 0 origin ack) (cleared_step s false) (replicate 16 0)
stopped_kept g s marks k origin ack =
    cleared_kept g s marks k 0 0 origin ack false (λ e. absurd (false≢true e)) (λ b. refl) (λ e. absurd (false≢true e))

-- 'the latest tags of those in step lie within an arc of W-15 tags': the epoch to be gathered starts less than W frames after each of them
pub begun_kept : (g : Group) (s : Step) (marks : List ℕ) → Windowed g → PortKept g s marks → (fore origin ack : ℕ) → in_arc g fore s ≡ true
    → PortKept (group_to g 1 0 (epoch_after g.kind (epoch_of g.kind fore)) origin ack) (cleared_step s (in_step g s)) (replicate 16 0)
unfolding in_arc latest cleared_step
begun_kept g s marks W k fore origin ack arc =
    cleared_kept g s marks k 1 (epoch_after g.kind (epoch_of g.kind fore)) origin ack (in_step g s) (λ e. e) (λ b. absurd (true≢false b))
    (λ e.
    record {
      gathered = refl;
      short =
          arc_short g.kind fore s.next g.window W.most
          (leb-true (distance_of g.kind fore (tag_before g.kind s.next) + frames g.kind) g.window (rw e at arc));
      empty = mark_none;
    })
