-- A frame goes by the port's step and its packets, and not by times.
use Rattle.std.specs.Prelude.{◌≡◌, Bool, true, false, cond, List, ℕ, eqb, length}
use Rattle.std.proofs.Math.Path.{refl}
use Rattle.invariant.specs.Proofs.Times.Rows.{SameButTimes, cond_same, group_same, marks_same, packets_same, put_marks_lem, put_packets_lem, put_step_lem, step_same}
use Rattle.invariant.specs.Proofs.Times.Settling.{settled_same}
use Rattle.phases.specs.Sizes.{ports_in}
use Rattle.receiver.specs.Frame.{FrameOutcome, frame_of, frame_refusal, gathered_by, marks_by, own_tag, port_rows, settled_by, store_by, taken_frame, taken_in}
use Rattle.rows.specs.Group.{group_at}
use Rattle.rows.specs.Packets.{marks_at, packets_at}
use Rattle.step.specs.declared.arrival.Taken.{Taken}

-- the same answer and the same store
pub record SameFrame (o p : FrameOutcome) : Type 0 where
  pub answer : o.answer ≡ p.answer
  pub rows : SameButTimes o.rows p.rows
  pub store : o.store ≡ p.store

both : (b : Bool) {o p q r : FrameOutcome} → SameFrame o p → SameFrame q r → SameFrame (cond b o q) (cond b p r)
both true h k = h
both false h k = k

module _ {s t : List (List ℕ)} (h : SameButTimes s t) where
  port_same : (kind i : ℕ) (taken : Taken) (byte : ℕ) → SameButTimes (port_rows kind s i taken byte) (port_rows kind t i taken byte)
  unfolding port_rows
  port_same kind i taken byte =
      rw (packets_same h i, marks_same h i)
      (put_marks_lem
      (put_packets_lem (put_step_lem h i taken.step) i (gathered_by kind (packets_at t i) taken.counted (own_tag kind taken) byte))
      i (marks_by kind (marks_at t i) taken))

  module _ (i : ℕ) (failed : Bool) (byte : ℕ) where
    taken_same : taken_in s i failed byte ≡ taken_in t i failed byte
    taken_same = rw (group_same h, step_same h i, packets_same h i) refl

    refusal_same : (payload store : ℕ) → frame_refusal s i payload store ≡ frame_refusal t i payload store
    refusal_same payload store = rw (group_same h, h.long) refl

    pub frame_same : (payload store : List ℕ) → SameFrame (frame_of s i failed byte payload store) (frame_of t i failed byte payload store)
    unfolding frame_of taken_frame settled_by
    frame_same payload store =
        let taken : Taken = taken_in t i failed byte in
        let after = port_same (group_at t).kind i taken byte in
        rw (refusal_same (length payload) (length store), taken_same, group_same h)
        (both (eqb (frame_refusal t i (length payload) (length store)) 0)
        (both (eqb taken.answer 11) (record { answer = refl; rows = h; store = refl })
        (record {
          answer = refl;
          rows = cond_same taken.settles (settled_same (ports_in (group_at t)) (store_by (group_at t) i taken byte payload store) after) after;
          store = refl;
        }))
        (record { answer = refl; rows = h; store = refl }))
