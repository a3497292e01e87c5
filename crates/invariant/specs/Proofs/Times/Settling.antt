-- What follows from a frame for all ports goes by their steps, packets and marks, and not by times.
use Rattle.std.specs.Prelude.{◌≡◌, ◌&&◌, List, replicate}
use Rattle.std.proofs.Math.Path.{refl}
use Rattle.std.proofs.Common.{ap}
use Rattle.std.proofs.Math.Bool.{Bool, false, true, not}
use Prim.Native.Nat.{ℕ, zero, suc}
use Rattle.ground.specs.Counting.Laws.Tests.{every_ext}
use Rattle.invariant.specs.Proofs.Times.Rows.{SameButTimes, cond_same, group_same, marks_same, member_same, packets_same, put_group_lem, put_marks_lem, put_member_lem, put_packets_lem, put_step_lem, step_same, untimed}
use Rattle.packet.specs.declared.ruling.Ruling.{Ruling}
use Rattle.packet.specs.Kinds.{epoch_after, epoch_of}
use Rattle.phases.specs.Beginning.{begins, foremost, ready, in_arc}
use Rattle.phases.specs.Due.{brought, owes_nothing, silent}
use Rattle.phases.specs.Passing.{group_to, noted_by, passed_group, passed_of, passed_port, passed_ports, passed_step, ruled_by}
use Rattle.phases.specs.Settling.{begin_by, begun_of, cleared_port, cleared_ports, cleared_step, gather_by, settled_of, stop_by, stopped_of}
use Rattle.rows.specs.declared.group.Group.{Group}
use Rattle.rows.specs.declared.member.Member.{Member}
use Rattle.rows.specs.Group.{group_at}
use Rattle.rows.specs.Member.{member_at}
use Rattle.rows.specs.Packets.{marks_at, packets_at}
use Rattle.rows.specs.Step.{step_at}
use Rattle.step.specs.Arrival.{flag_of, in_step, readable}
use Rattle.step.specs.OwnCount.{own_ruling}
use Rattle.store.specs.Frames.{packet_in}
use Rattle.store.specs.Marks.{first_mark, passed_marks}

-- a good packet is noted with no regard to times
noted_same : (m q : Member) → untimed m ≡ untimed q → (whole : Bool) (r : Ruling) → untimed (noted_by m whole r) ≡ untimed (noted_by q whole r)
unfolding noted_by
noted_same m q e whole r = ap (λ (x : Member). untimed (noted_by x whole r)) e

module _ (g : Group) where
  module _ {s t : List (List ℕ)} (h : SameButTimes s t) where
    pub brought_same : (n : ℕ) → brought g s n ≡ brought g t n
    unfolding brought
    brought_same n =
        every_ext n (λ i. owes_nothing g (step_at s i) (marks_at s i)) (λ i. owes_nothing g (step_at t i) (marks_at t i))
        (λ i b. rw (step_same h i, marks_same h i) refl)

    silent_same : (n : ℕ) → silent g s n ≡ silent g t n
    unfolding silent
    silent_same n = every_ext n (λ i. not (readable g (step_at s i))) (λ i. not (readable g (step_at t i))) (λ i b. rw (step_same h i) refl)

    foremost_same : (n : ℕ) → foremost g s n ≡ foremost g t n
    unfolding foremost
    foremost_same zero = refl
    foremost_same (suc n) = let e = foremost_same n in rw (e, step_same h n) refl

    begins_same : (n : ℕ) → begins g s n ≡ begins g t n
    unfolding begins
    begins_same n =
        rw (
          foremost_same n,
          every_ext n (λ i. ready g (step_at s i)) (λ i. ready g (step_at t i)) (λ i b. rw (step_same h i) refl),
          every_ext n (λ i. in_arc g (foremost g t n) (step_at s i)) (λ i. in_arc g (foremost g t n) (step_at t i)) (λ i b. rw (step_same h i) refl),
        )
        refl

    cleared_one : (beginning : Bool) (i : ℕ) → SameButTimes (cleared_port g beginning i s) (cleared_port g beginning i t)
    unfolding cleared_port
    cleared_one beginning i =
        rw (step_same h i)
        (put_marks_lem (put_step_lem h i (cleared_step (step_at t i) (beginning && in_step g (step_at t i)))) i (replicate 16 0))

    passed_one : (store : List ℕ) (i : ℕ) → SameButTimes (passed_port g store i s) (passed_port g store i t)
    unfolding passed_port
    passed_one store i =
        rw (step_same h i, packets_same h i, marks_same h i)
        (put_marks_lem
        (put_step_lem
        (put_packets_lem
        (put_member_lem h i (noted_by (member_at s i) whole read) (noted_by (member_at t i) whole read) (noted_same (member_at s i) (member_at t i) (member_same h i) whole read))
        i (ruled_by (packets_at t i) whole (packet_in g i store)))
        i (passed_step (step_at t i) whole))
        i (passed_marks (marks_at t i)))
      where
        whole : Bool
        whole = first_mark (marks_at t i)

        read : Ruling
        read = own_ruling g.kind g.oldest (packet_in g i store)

  cleared_same : (beginning : Bool) (n : ℕ) {s t : List (List ℕ)} → SameButTimes s t → SameButTimes (cleared_ports g beginning n s) (cleared_ports g beginning n t)
  unfolding cleared_ports
  cleared_same beginning zero h = h
  cleared_same beginning (suc n) h = cleared_one (cleared_same beginning n h) beginning n

  passed_ports_lem : (store : List ℕ) (n : ℕ) {s t : List (List ℕ)} → SameButTimes s t → SameButTimes (passed_ports g store n s) (passed_ports g store n t)
  unfolding passed_ports
  passed_ports_lem store zero h = h
  passed_ports_lem store (suc n) h = passed_one (passed_ports_lem store n h) store n

  module _ (n : ℕ) {s t : List (List ℕ)} (h : SameButTimes s t) where
    pub passed_same : (store : List ℕ) → SameButTimes (passed_of g store n s) (passed_of g store n t)
    unfolding passed_of
    passed_same store = put_group_lem (passed_ports_lem store n h) (passed_group g)

    stopped_same : SameButTimes (stopped_of g n s) (stopped_of g n t)
    unfolding stopped_of
    stopped_same = put_group_lem (cleared_same false n h) (group_to g 0 0 0 g.origin g.rs_ack)

    stop_same : SameButTimes (stop_by g n s) (stop_by g n t)
    unfolding stop_by
    stop_same = rw (silent_same h n) (cond_same (flag_of g.begun && silent g t n) stopped_same h)

    begun_same : SameButTimes (begun_of g n s) (begun_of g n t)
    unfolding begun_of
    begun_same =
        rw (foremost_same h n)
        (put_group_lem (cleared_same true n h) (group_to g 1 0 (epoch_after g.kind (epoch_of g.kind (foremost g t n))) g.origin g.rs_ack))

    begin_same : SameButTimes (begin_by g n s) (begin_by g n t)
    unfolding begin_by
    begin_same = rw (begins_same h n) (cond_same (not (flag_of g.begun) && begins g t n) begun_same h)

    gather_same : (store : List ℕ) → SameButTimes (gather_by g store n s) (gather_by g store n t)
    unfolding gather_by
    gather_same store = rw (brought_same h n) (cond_same (flag_of g.begun && not (flag_of g.gathered) && brought g t n) (passed_same store) h)

-- each by the group that it finds
module _ (n : ℕ) {s t : List (List ℕ)} (h : SameButTimes s t) where
  stop_own : SameButTimes (stop_by (group_at s) n s) (stop_by (group_at t) n t)
  stop_own = rw (group_same h) (stop_same (group_at t) n h)

  begin_own : SameButTimes (begin_by (group_at s) n s) (begin_by (group_at t) n t)
  begin_own = rw (group_same h) (begin_same (group_at t) n h)

  gather_own : (store : List ℕ) → SameButTimes (gather_by (group_at s) store n s) (gather_by (group_at t) store n t)
  gather_own store = rw (group_same h) (gather_same (group_at t) n h store)

pub settled_same : (n : ℕ) (store : List ℕ) {s t : List (List ℕ)} → SameButTimes s t → SameButTimes (settled_of n store s) (settled_of n store t)
unfolding settled_of
settled_same n store h = gather_own n (begin_own n (stop_own n h)) store
