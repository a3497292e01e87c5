-- Step is lost exactly so, of the frames heard, after any start and any calls.
use Rattle.std.specs.Prelude.{◌≡◌, refl, ◌⊎◌, Bool, true, cond, not, List, [], ◌∷◌, ℕ, suc, ◌<◌, get_or, length}
use Rattle.std.proofs.Common.{sym, ap, ◌∙◌, inl, inr, ⊎_elim, true≢false, arith, ne_eqb}
use Rattle.std.proofs.Math.Path.{subst}
use Rattle.std.proofs.Math.Bool.{false}
use Rattle.ground.specs.Truth.{and_left, clash}
use Rattle.invariant.specs.Calls.{Receiver, ReceiverCall, receiver_run, started_with}
use Rattle.invariant.specs.Heard.{Fourth, Recorded, Second, broken, ended_odd}
use Rattle.invariant.specs.Kept.Group.{Kept}
use Rattle.invariant.specs.Kept.Run.{RunKept}
use Rattle.invariant.specs.Live.{LiveRow, heard_of, is_heard}
use Rattle.invariant.specs.Proofs.Calls as Calls
use Rattle.invariant.specs.Proofs.Kept.Start.{started_kept, started_with_lem}
use Rattle.invariant.specs.Proofs.Laws.Flags.{flag_on}
use Rattle.invariant.specs.Proofs.Live.Calls.{refusal_unheard, stands}
use Rattle.invariant.specs.Proofs.Live.Losing.{HeardBy, HeardStep, odd_now}
use Rattle.invariant.specs.Proofs.Sizes.{run_sizes}
use Rattle.packet.specs.Counts.{h4_counts}
use Rattle.packet.specs.Kinds.{tag_after}
use Rattle.packet.specs.Laws.Back.{before_after}
use Rattle.packet.specs.Laws.Counting.{counts_h4}
use Rattle.phases.specs.Sizes.{ports_in}
use Rattle.receiver.specs.Frame.{FrameOutcome, frame_of, frame_refusal, taken_in}
use Rattle.receiver.specs.Laws.Outcomes.{frame_cases}
use Rattle.receiver.specs.Starting.{group_with, start_as_answer}
use Rattle.rows.specs.declared.group.Group.{Group}
use Rattle.rows.specs.declared.step.Step.{Step}
use Rattle.rows.specs.Group.{group_at}
use Rattle.rows.specs.Packets.{packets_at}
use Rattle.rows.specs.Port.{Port, port_at}
use Rattle.rows.specs.Step.{step_at}
use Rattle.step.specs.Arrival.{counts_on, flag_of, frame_dropped, joining, keeps, outside, run_of, taken_of}
use Rattle.step.specs.Losing.{FourthBreak, SecondOdd}
use Rattle.step.specs.Theorems.Lost.{lost_so, so_lost}
use Rattle.step.specs.declared.arrival.Taken.{Taken}
use Rattle.step.specs.declared.run.Run.{Run}
use Rattle.step.specs.Laws.Arrival.{stepped, taken_by}
use Rattle.step.specs.OwnCount.{ends_odd, without_mfi2}
use Rattle.step.specs.Run.{ends_packet, in_step_at}

-- a frame that is not flagged is answered 12 exactly if the port is then not in step
module _ (g : Group) (s : Step) (odd : Bool) (h : ℕ) where
  abbrev Twelve : Taken → Type 0
  Twelve t = (t.answer ≡ 12 → stepped g s odd h ≡ false) × (stepped g s odd h ≡ false → t.answer ≡ 12)

  twelve : Twelve (taken_of g s false odd h)
  unfolding counts_on frame_dropped keeps outside joining
  twelve =
      taken_by Twelve g s false odd h (λ f. absurd (true≢false (sym f)))
      (λ f e. (λ z. e, λ z. refl))
      (λ f e b. (λ (z : 0 ≡ 12). absurd (omega arith), λ z. clash (stepped g s odd h) e z))
      (λ f e b j w. (λ (z : 0 ≡ 12). absurd (omega arith), λ z. clash (stepped g s odd h) e z))
      (λ f e b j w. (λ (z : 11 ≡ 12). absurd (omega arith), λ z. clash (stepped g s odd h) e z))
      (λ f e b j w l. (λ (z : 0 ≡ 12). absurd (omega arith), λ z. clash (stepped g s odd h) e z))
      (λ f e b j w. (λ (z : 0 ≡ 12). absurd (omega arith), λ z. clash (stepped g s odd h) e z))

-- the rule, on a record that says what was heard
module _ (kind : ℕ) (run : Run) (row heard : List ℕ) (h : ℕ) (clock : without_mfi2 kind ≡ false) (k : RunKept kind run) (live : LiveRow kind run.count run.next row heard)
    (on : in_step_at kind run.count ≡ true) (o : HeardBy kind run heard) where
  breaks : run.breaks ≡ broken kind run.next heard
  breaks = o.breaks_are on

  last : flag_of run.odd ≡ ended_odd kind run.next heard
  last = o.odd_is on

  abbrev ends : Bool
  ends = ends_odd kind row run.next h

  row_of_lem : broken kind (tag_after kind run.next) (h ∷ heard) ≡ cond (h4_counts run.next h) 0 (suc run.breaks)
  row_of_lem = rw (before_after kind run.next k.tag, counts_h4 kind run.next h clock, breaks) refl

  ended : ends ≡ true → ends_packet kind run.next ≡ true
  unfolding ends_odd
  ended e = and_left (ends_packet kind run.next) _ e

  fourth : FourthBreak run h → Fourth kind run.next h heard
  fourth b = row_of_lem ∙ rw b.broken (let m = k.breaks in let l = b.after in omega arith)

  fourth_so : Fourth kind run.next h heard → FourthBreak run h
  fourth_so e = go (h4_counts run.next h) refl (sym row_of_lem ∙ e)
    where
      go : (c : Bool) → h4_counts run.next h ≡ c → cond c 0 (suc run.breaks) ≡ 4 → FourthBreak run h
      go true c z = absurd (omega arith)
      go false c z = record { broken = c; after = omega arith }

  second : SecondOdd run ends → Second kind run.next h heard
  second b =
      let e = ended b.ends in
      record { ends = e; this = odd_now kind run row heard h clock k live o on e ∙ b.ends; last = sym last ∙ flag_set run.odd b.after }
    where
      flag_set : (m : ℕ) → (m ≡ 0 → ⊥) → flag_of m ≡ true
      flag_set m d = ap not (ne_eqb m 0 d)

  second_so : Second kind run.next h heard → SecondOdd run ends
  second_so b =
      record { ends = sym (odd_now kind run row heard h clock k live o on b.ends) ∙ b.this; after = flag_on run.odd (last ∙ b.last) }

-- so of what a frame does
module _ (g : Group) (s : Step) (row heard : List ℕ) (h : ℕ) (clock : without_mfi2 g.kind ≡ false) (k : RunKept g.kind (run_of s)) (live : LiveRow g.kind s.count s.next row heard)
    (on : in_step_at g.kind s.count ≡ true) (said : HeardStep g.kind s heard) where
  abbrev odd : Bool
  odd = ends_odd g.kind row s.next h

  rule : ((taken_of g s false (ends_odd g.kind row s.next h) h).answer ≡ 12 → Fourth g.kind s.next h heard ⊎ Second g.kind s.next h heard)
      × (Fourth g.kind s.next h heard ⊎ Second g.kind s.next h heard → (taken_of g s false (ends_odd g.kind row s.next h) h).answer ≡ 12)
  rule = (
    λ z.
        ⊎_elim
        (λ (f : FourthBreak (run_of s) h). inl (fourth g.kind (run_of s) row heard h clock k live on said f))
        (λ (f : SecondOdd (run_of s) odd). inr (second g.kind (run_of s) row heard h clock k live on said f))
        (lost_so g.kind (run_of s) odd h clock on ((twelve g s odd h).0 z)),
    λ w.
        (twelve g s odd h).1
        (so_lost g.kind (run_of s) odd h clock on
        (⊎_elim
        (λ (f : Fourth g.kind s.next h heard). inl (fourth_so g.kind (run_of s) row heard h clock k live on said f))
        (λ (f : Second g.kind s.next h heard). inr (second_so g.kind (run_of s) row heard h clock k live on said f))
        w)),
  )

module _ (kind count P W : ℕ) (hold restore : List ℕ) (rows : List (List ℕ)) (store : List ℕ) (e : start_as_answer kind count P W (length store) hold restore (length rows) ≡ 0) (calls : List ReceiverCall) (j : ℕ) (b : j < count)
    (clock : without_mfi2 kind ≡ false) where
  abbrev first : Receiver
  first = started_with kind count P W hold restore rows store

  abbrev x : Receiver
  x = receiver_run first calls

  abbrev port : Port
  port = port_at x.rows j

  abbrev heard : List ℕ
  heard = heard_of j first calls []

  first_kept : Kept first.rows
  first_kept = started_kept kind count P W (length store) hold restore rows e

  kept : Kept x.rows
  kept = Calls.kept kind count P W hold restore rows store e calls

  group : group_at first.rows ≡ group_with kind count P W
  group = started_with_lem kind count P W (length store) hold restore rows e

  kind_is : (group_at x.rows).kind ≡ kind
  kind_is = (run_sizes first calls first_kept).kind ∙ ap (λ (g : Group). g.kind) group

  count_is : (group_at x.rows).count ≡ count
  count_is = (run_sizes first calls first_kept).count ∙ ap (λ (g : Group). g.count) group

  said : HeardStep kind port.step heard
  said = (stands kind count P W hold restore rows store e calls j b).said clock

  pub recorded : in_step_at kind port.step.count ≡ true → Recorded kind port heard
  recorded on = record { breaks = said.breaks_are on; odd = said.odd_is on }

  module _ (on : in_step_at kind port.step.count ≡ true) (h : ℕ) (payload : List ℕ)
      (frame : is_heard (frame_of x.rows j false h payload x.store).answer ≡ true) where
    abbrev s : Step
    s = step_at x.rows j

    abbrev answer : ℕ
    answer = (frame_of x.rows j false h payload x.store).answer

    taken : (frame_of x.rows j false h payload x.store).answer ≡ (taken_in x.rows j false h).answer
    taken =
        frame_cases x.rows j false h payload x.store (λ (o : FrameOutcome). is_heard o.answer ≡ true → o.answer ≡ (taken_in x.rows j false h).answer)
        (λ q z.
        clash (is_heard (frame_refusal x.rows j (length payload) (length x.store))) z
        (refusal_unheard (group_at x.rows) (ports_in (group_at x.rows)) j (length x.rows) (length payload) (length x.store) q))
        (λ e f z. refl) (λ e f z. refl) frame

    here : j < (group_at x.rows).count
    here = rw count_is b

    by_rule : ((taken_in x.rows j false h).answer ≡ 12 → Fourth kind port.step.next h heard ⊎ Second kind port.step.next h heard)
        × (Fourth kind port.step.next h heard ⊎ Second kind port.step.next h heard → (taken_in x.rows j false h).answer ≡ 12)
    unfolding port_at
    by_rule =
        subst
        (λ (k : ℕ).
        ((taken_in x.rows j false h).answer ≡ 12 → Fourth k (step_at x.rows j).next h heard ⊎ Second k (step_at x.rows j).next h heard)
        × (Fourth k (step_at x.rows j).next h heard ⊎ Second k (step_at x.rows j).next h heard → (taken_in x.rows j false h).answer ≡ 12))
        kind_is
        (rule (group_at x.rows) (step_at x.rows j) (get_or (packets_at x.rows j) 0 []) heard h (rw kind_is clock) (kept.lasting.ports j here).kept.run
        (rw kind_is (stands kind count P W hold restore rows store e calls j b).live) (rw kind_is on) (rw kind_is said))

    pub lost_heard : ((frame_of x.rows j false h payload x.store).answer ≡ 12 → Fourth kind port.step.next h heard ⊎ Second kind port.step.next h heard)
        × (Fourth kind port.step.next h heard ⊎ Second kind port.step.next h heard → (frame_of x.rows j false h payload x.store).answer ≡ 12)
    lost_heard = (λ z. by_rule.0 (sym taken ∙ z), λ w. taken ∙ by_rule.1 w)
