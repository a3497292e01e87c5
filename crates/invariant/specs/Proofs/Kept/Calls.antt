-- What holds after a frame, and after a fetch.
use Rattle.std.specs.Prelude.{◌≡◌, refl, Bool, true, not, ◌&&◌, List, ℕ, ◌≤◌, ◌<◌, ltb, length}
use Rattle.std.proofs.Common.{ap, ◌∙◌, arith, ltb-true}
use Rattle.invariant.specs.Kept.Group.{Kept, Lasting}
use Rattle.invariant.specs.Proofs.Kept.Settling.{SteadyOf, steady_settled}
use Rattle.invariant.specs.Proofs.Kept.Told.{lasting_told}
use Rattle.invariant.specs.Proofs.Kept.WithinCall.{lasting_frame, lasting_passed}
use Rattle.invariant.specs.Proofs.Settles.{settles_always}
use Rattle.ground.specs.Counting.Laws.Tests.{every_ext}
use Rattle.ground.specs.Truth.{and_left, and_right, clash}
use Rattle.judge.specs.Seen.{size_of}
use Rattle.phases.specs.Due.{brought, silent}
use Rattle.phases.specs.Laws.Lengths.{length_passed}
use Rattle.phases.specs.Laws.Passed.{passed_group_lem}
use Rattle.phases.specs.Passing.{passed_group, passed_of}
use Rattle.phases.specs.Settling.{Settled, settled_of}
use Rattle.phases.specs.Sizes.{ports_in}
use Rattle.phases.specs.Theorems.Settled.{passed_begun, passed_silent, settled}
use Rattle.receiver.specs.Fetch.{due_in, fetch_of}
use Rattle.receiver.specs.Frame.{FrameOutcome, frame_of, port_rows, settled_by, store_by, taken_in}
use Rattle.receiver.specs.Laws.Answers.{unrefused}
use Rattle.receiver.specs.Laws.Frames.{frame_group}
use Rattle.receiver.specs.Laws.Outcomes.{fetch_cases, frame_cases}
use Rattle.receiver.specs.Laws.Passed.{passed_count, passed_gathered}
use Rattle.receiver.specs.Laws.Sizes.{ports_are}
use Rattle.receiver.specs.Laws.Told.{told_group, told_step, with_ack}
use Rattle.receiver.specs.Report.{reply_ports, reported_of, states_worked_out}
use Rattle.reply.specs.Telling.{ack_of}
use Rattle.rows.specs.declared.group.Group.{Group}
use Rattle.rows.specs.declared.step.Step.{Step}
use Rattle.rows.specs.Group.{group_at}
use Rattle.rows.specs.Rows.{rows_for}
use Rattle.rows.specs.Step.{step_at}
use Rattle.step.specs.Arrival.{flag_of, in_step, readable}
use Rattle.step.specs.declared.arrival.Taken.{Taken}

kept_of : (n : ℕ) (s : List (List ℕ)) → SteadyOf n s → Settled n s → Kept s
kept_of n s k o = record { lasting = k.lasting; settled = rw k.count o }

module _ (s : List (List ℕ)) (k : Kept s) where
  abbrev g : Group
  g = group_at s

  abbrev n : ℕ
  n = (group_at s).count

  ports : ports_in g ≡ n
  ports = ports_are g k.lasting.group.sizes

  -- a frame of a port of the group
  taken_kept : (i : ℕ) (failed : Bool) (h : ℕ) (store : List ℕ) → i < n
      → Kept (settled_by (taken_in s i failed h).settles n store (port_rows g.kind s i (taken_in s i failed h) h))
  taken_kept i failed h store b =
      let t : Taken = taken_in s i failed h in
      let a : List (List ℕ) = port_rows g.kind s i t h in
      let ka : SteadyOf n a = record { lasting = lasting_frame s k.lasting i failed h b; count = ap (λ (x : Group). x.count) (frame_group g.kind s i t h) } in
      let l : rows_for n ≤ length a = (let e = ka.lasting.rows in let c = ka.count in omega arith) in
      rw (settles_always s k i failed h b store) (kept_of n (settled_of n store a) (steady_settled n store a ka) (settled n store a l))

  pub frame_kept : (i : ℕ) (failed : Bool) (h : ℕ) (payload store : List ℕ) → Kept (frame_of s i failed h payload store).rows
  frame_kept i failed h payload store =
      let t : Taken = taken_in s i failed h in
      frame_cases s i failed h payload store (λ (o : FrameOutcome). Kept o.rows) (λ e. k) (λ e f. k)
      (λ e f.
      let o = unrefused g (ports_in g) i (length s) (length payload) (length store) e in
      rw ports (taken_kept i failed h (store_by g i t h payload store) (rw ports at o.port)))

ack_readable : (g : Group) (ack : ℕ) (q : Step) → readable (with_ack g ack) q ≡ readable g q
unfolding readable in_step
ack_readable g ack q = refl

-- working out the states makes no port silent
told_silent : (g : Group) (s : List (List ℕ)) → g ≡ group_at s → (n : ℕ) → rows_for n ≤ length s → silent (group_at (states_worked_out g n s)) (states_worked_out g n s) n ≡ silent (group_at s) s n
unfolding silent
told_silent g s same n l =
    every_ext n (λ i. not (readable (group_at (states_worked_out g n s)) (step_at (states_worked_out g n s) i))) (λ i. not (readable (group_at s) (step_at s i)))
    (λ i b. ap not (one i b))
  where
    one : (i : ℕ) → i < n → readable (group_at (states_worked_out g n s)) (step_at (states_worked_out g n s) i) ≡ readable (group_at s) (step_at s i)
    one i b =
        rw (told_group g n s (omega arith), told_step g n s i b l)
        (ack_readable g (ack_of (reply_ports g s n) (size_of n) g.rs_ack) (step_at s i) ∙ ap (λ (x : Group). readable x (step_at s i)) same)

-- by a count that is the group's
told_count : (x : Group) (a : List (List ℕ)) (c n : ℕ) → c ≡ n → Lasting (states_worked_out x c a) → Lasting (states_worked_out x n a)
told_count x a c n e h = rw e at h

-- a report that is due
pub reported_kept : (s : List (List ℕ)) → Kept s → (store : List ℕ) → flag_of (group_at s).begun ≡ true → brought (group_at s) s (group_at s).count ≡ true
    → Kept (reported_of (group_at s) store (group_at s).count s)
unfolding reported_of
reported_kept s k store on due =
    kept_of n r (record { lasting = told_count (group_at a) a (group_at a).count n count (lasting_told a ka); count = ap (λ (x : Group). x.count) told ∙ count })
    (record {
      heard = λ e. told_silent (group_at a) a refl n la ∙ passed_silent (group_at s) store n s enough ∙ k.settled.heard on;
      gathers = λ e f. clash (flag_of (group_at r).gathered) gathered f;
      waits = λ f. clash (flag_of (group_at r).begun) begun f;
    })
  where
    n : ℕ
    n = (group_at s).count

    a : List (List ℕ)
    a = passed_of (group_at s) store (group_at s).count s

    r : List (List ℕ)
    r = states_worked_out (group_at a) (group_at s).count a

    enough : rows_for (group_at s).count ≤ length s
    enough = let e = k.lasting.rows in omega arith

    la : rows_for (group_at s).count ≤ length a
    la = rw (length_passed (group_at s) store (group_at s).count s) enough

    ka : Lasting a
    ka = lasting_passed s k.lasting store on due

    group : group_at a ≡ passed_group (group_at s)
    group = passed_group_lem (group_at s) store (group_at s).count s (let e = k.lasting.rows in omega arith)

    told : group_at r ≡ with_ack (group_at a) (ack_of (reply_ports (group_at a) a (group_at s).count) (size_of (group_at s).count) (group_at a).rs_ack)
    told = told_group (group_at a) (group_at s).count a (let l = la in omega arith)

    count : (group_at a).count ≡ (group_at s).count
    count = ap (λ (x : Group). x.count) group ∙ passed_count (group_at s)

    begun : flag_of (group_at r).begun ≡ true
    begun = ap (λ (x : Group). flag_of x.begun) told ∙ ap (λ (x : Group). flag_of x.begun) group ∙ ap (λ (b : ℕ). flag_of b) (passed_begun (group_at s)) ∙ on

    gathered : flag_of (group_at r).gathered ≡ true
    gathered = ap (λ (x : Group). flag_of x.gathered) told ∙ ap (λ (x : Group). flag_of x.gathered) group ∙ ap (λ (b : ℕ). flag_of b) (passed_gathered (group_at s))

-- what due_in says
pub record Due (g : Group) (n : ℕ) (s : List (List ℕ)) : Type 0 where
  pub some : 0 < n
  pub begun : flag_of g.begun ≡ true
  pub gathered : flag_of g.gathered ≡ true
  pub brought : brought g s n ≡ true

pub due_says : (g : Group) (n : ℕ) (s : List (List ℕ)) → due_in g n s ≡ true → Due g n s
unfolding due_in
due_says g n s e =
    let a : Bool = ltb 0 n in
    let b : Bool = flag_of g.begun in
    let c : Bool = flag_of g.gathered in
    let f = and_left (a && b && c) (brought g s n) e in
    record {
      some = ltb-true 0 n (and_left a b (and_left (a && b) c f));
      begun = and_right a b (and_left (a && b) c f);
      gathered = and_right (a && b) c f;
      brought = and_right (a && b && c) (brought g s n) e;
    }

pub fetch_kept : (s : List (List ℕ)) → Kept s → (store out report : List ℕ) → Kept (fetch_of s store out report).rows
fetch_kept s k store out report =
    fetch_cases s store out report Kept k (λ e d. rw ports (let o = due_says g (group_at s).count s (rw ports at d) in reported_kept s k store o.begun o.brought))
  where
    g : Group
    g = group_at s

    ports : ports_in (group_at s) ≡ (group_at s).count
    ports = ports_are (group_at s) k.lasting.group.sizes
