-- What is heard: on every state, and after any calls.
use Rattle.std.specs.Prelude.{◌≡◌, refl, Bool, true, false, not, List, ℕ, ◌<◌, eqb, get_or, length}
use Rattle.std.proofs.Common.{sym, ap, ◌∙◌, arith, eqb-true}
use Rattle.ground.specs.Counting.Laws.Tests.{none_at, some_none}
use Rattle.ground.specs.Counting.Words.{some}
use Rattle.ground.specs.Truth.{and_left, and_right}
use Rattle.packet.specs.Ruling.{fields_in}
use Rattle.packet.specs.Theorems.Tags.{before_first}
use Rattle.phases.specs.Sizes.{ports_in}
use Rattle.receiver.specs.Fetch.{fetch_of, report_if_due}
use Rattle.receiver.specs.Heard.{good_at, heard_of, lowest, said_at, silence}
use Rattle.receiver.specs.Laws.Carried.{carried_epoch, seen_good}
use Rattle.receiver.specs.Laws.Heard.{heard_none, lowest_holds, lowest_least}
use Rattle.receiver.specs.Laws.Passed.{passed_kind, passed_oldest}
use Rattle.receiver.specs.Laws.Sizes.{ports_are}
use Rattle.receiver.specs.Report.{report_by, epoch_report, ruling_epoch, seen_of}
use Rattle.receiver.specs.Seen.{carried_at, other_at}
use Rattle.receiver.specs.Starting.{start_as_answer}
use Rattle.rows.specs.declared.group.Group.{Group}
use Rattle.rows.specs.Group.{group_at}
use Rattle.rows.specs.Laws.Port.{port_step}
use Rattle.rows.specs.Port.{port_at}
use Rattle.rows.specs.declared.step.Step.{Step}
use Rattle.rows.specs.Step.{step_at}
use Rattle.step.specs.Arrival.{flag_of}
use Rattle.invariant.specs.Calls.{Receiver, ReceiverCall, receiver_run, started_with}
use Rattle.invariant.specs.Kept.Group.{Kept}
use Rattle.invariant.specs.Proofs.Calls.{kept}
use Rattle.invariant.specs.Proofs.Numbered.{kind_is, ruling_number}
use Rattle.invariant.specs.Proofs.Read.Sizes.{count_is}
use Rattle.invariant.specs.Proofs.Reports.Groups.{fetch_group}
use Rattle.invariant.specs.Read.{HeardFrom}
use Rattle.invariant.specs.Read.HeardFrom.{nothing, said}
use Rattle.invariant.specs.Reports.{Given}

pub heard_from : (g : Group) (s : List (List ℕ)) (n : ℕ) → HeardFrom g s n
unfolding heard_of
heard_from g s n = go (some n (good_at g s)) refl
  where
    go : (b : Bool) → some n (good_at g s) ≡ b → HeardFrom g s n
    go true e =
        let l = lowest_holds n (good_at g s) e in
        said (lowest n (good_at g s)) l.below l.holds (λ j h. lowest_least n (good_at g s) e j h) (rw e refl)
    go false e = nothing (λ i b. none_at n (good_at g s) e i b) (rw e refl)

-- a good packet's answer is 0
good_answer : (g : Group) (s : List (List ℕ)) (i : ℕ) → (seen_of g s i).good ≡ true → (carried_at g s i).answer ≡ 0
good_answer g s i e =
    eqb-true (carried_at g s i).answer 0 (and_right (not (other_at g s i)) (eqb (carried_at g s i).answer 0) (sym (seen_good g s i) ∙ e))

epoch_said : (g : Group) (s : List (List ℕ)) (i : ℕ) → (seen_of g s i).good ≡ true → get_or (said_at g s i) 1 0 ≡ (fields_in g.kind (port_at s i).ruling).epoch
unfolding said_at carried_at port_at
epoch_said g s i e = carried_epoch g.kind _ (good_answer g s i e)

-- a packet that is not whole is none
unruled : (g : Group) (s : List (List ℕ)) (i : ℕ) → (step_at s i).whole ≡ 0 → good_at g s i ≡ false
unfolding seen_of
unruled g s i e = rw e refl

module _ (kind count P W : ℕ) (hold restore : List ℕ) (rows : List (List ℕ)) (store : List ℕ) (e : start_as_answer kind count P W (length store) hold restore (length rows) ≡ 0) (calls : List ReceiverCall) where
  abbrev x : Receiver
  x = receiver_run (started_with kind count P W hold restore rows store) calls

  abbrev now : List (List ℕ)
  now = (receiver_run (started_with kind count P W hold restore rows store) calls).rows

  abbrev g : Group
  g = group_at (receiver_run (started_with kind count P W hold restore rows store) calls).rows

  now_kept : Kept now
  now_kept = kept kind count P W hold restore rows store e calls

  ports : ports_in g ≡ count
  ports = count_is kind count P W hold restore rows store e calls

  -- the epoch heard is the one before the oldest
  pub heard_epoch : get_or (heard_of g now (ports_in g)) 0 0 ≡ 1 → get_or (heard_of g now (ports_in g)) 1 0 ≡ ruling_epoch g
  heard_epoch one = go (heard_from g now (ports_in g))
    where
      go : HeardFrom g now (ports_in g) → get_or (heard_of g now (ports_in g)) 1 0 ≡ ruling_epoch g
      go (said i b good low is) =
          let whole : (seen_of g now i).whole ≡ true = and_left (seen_of g now i).whole (seen_of g now i).good good in
          let fine : (seen_of g now i).good ≡ true = and_right (seen_of g now i).whole (seen_of g now i).good good in
          ap (λ (l : List ℕ). get_or l 1 0) is
          ∙ epoch_said g now i fine
          ∙ ap (λ (k : ℕ). (fields_in k (port_at now i).ruling).epoch) (kind_is kind count P W hold restore rows store e calls)
          ∙ ruling_number kind count P W hold restore rows store e calls i (rw ports at b) whole fine
      go (nothing none is) = absurd (let z : get_or (heard_of g now (ports_in g)) 0 0 ≡ 0 = ap (λ (l : List ℕ). get_or l 0 0) is in omega arith)

  -- after a report it is the epoch of the report
  pub heard_reported : (out report : List ℕ) → Given now x.store out report → ruling_epoch (group_at (fetch_of now x.store out report).rows) ≡ (report_if_due g (ports_in g) now).epoch
  unfolding ruling_epoch report_if_due epoch_report report_by
  heard_reported out report o =
      rw (fetch_group now x.store out report o, passed_kind g, passed_oldest g, o.due) (before_first g.kind g.oldest now_kept.lasting.group.oldest)

  -- nothing is heard until the first epoch is gathered
  pub heard_late : flag_of g.gathered ≡ false → heard_of g now (ports_in g) ≡ silence
  heard_late off = heard_none g now (ports_in g) (some_none (ports_in g) (good_at g now) none)
    where
      none : (i : ℕ) → i < ports_in g → good_at g now i ≡ false
      none i b =
          let z = (now_kept.lasting.ports i (rw (ports_are g now_kept.lasting.group.sizes) at b)).unruled off in
          unruled g now i (ap (λ (q : Step). q.whole) (sym (port_step now i)) ∙ z)
