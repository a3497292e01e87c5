-- Receiving begun anew is a run of calls like any other: a flagged frame of every port. So it leaves what every call leaves, and what it stops stays stopped.
use Rattle.std.specs.Prelude.{◌≡◌, ◌≢◌, Bool, false, cond, not, ◌&&◌, ◌||◌, List, [], ◌∷◌, ◌++◌, length, replicate}
use Rattle.std.proofs.Math.Path.{refl}
use Rattle.std.proofs.Common.{ap, subst, ◌∙◌, ⊎_elim, not-suc-le-zero, arith}
use Rattle.std.proofs.Math.Bool.{true}
use Prim.Native.Nat.{ℕ, zero, suc, ◌*◌, ◌≤◌, ◌<◌}
use Rattle.std.proofs.lemmas.Bool.{lt-leb}
use Rattle.ground.specs.Counting.Laws.Tests.{every_all}
use Rattle.ground.specs.Counting.Words.{every}
use Rattle.ground.specs.Truth.{clash, cond_by, eq_or_ne, fails}
use Rattle.packet.specs.Kinds.{frames}
use Rattle.packet.specs.Theorems.Tags.{frames_some}
use Rattle.phases.specs.Due.{silent}
use Rattle.phases.specs.Laws.Cleared.{begun_port, stopped_port}
use Rattle.phases.specs.Laws.Lengths.{length_stopped}
use Rattle.phases.specs.Laws.Passed.{passed_of_port}
use Rattle.phases.specs.Passing.{passed_step}
use Rattle.phases.specs.Settling.{cleared_step, settled_of, stopped_of}
use Rattle.phases.specs.Sizes.{ports_in}
use Rattle.receiver.specs.Anew.{anew_answer, anew_fits, anew_rows, flagged_rows}
use Rattle.receiver.specs.Frame.{FrameOutcome, frame_of, port_rows, settled_by, store_by}
use Rattle.receiver.specs.Laws.Anew.{anew_fits_lem, flagged_rows_lem, flagged_port, flagged_ports, length_flagged_ports, ports_sizes, same_ports}
use Rattle.receiver.specs.Laws.Frames.{frame_other, frame_port, length_frame}
use Rattle.receiver.specs.Laws.Outcomes.{frame_cases}
use Rattle.receiver.specs.Laws.Sizes.{ports_are}
use Rattle.rows.specs.declared.group.Group.{Group}
use Rattle.rows.specs.declared.step.Step.{Step}
use Rattle.rows.specs.Group.{group_at}
use Rattle.rows.specs.Laws.Port.{port_step}
use Rattle.rows.specs.Port.{port_at}
use Rattle.rows.specs.Rows.{rows_for}
use Rattle.rows.specs.Step.{step_at}
use Rattle.step.specs.declared.arrival.Taken.{Taken}
use Rattle.step.specs.Arrival.{flag_of, flagged, in_step, readable, taken_of}
use Rattle.step.specs.Run.{in_step_at}
use Rattle.invariant.specs.Calls.{Frame, Receiver, ReceiverCall, receiver_after, receiver_run}
use Rattle.invariant.specs.Kept.Group.{Kept}
use Rattle.invariant.specs.Proofs.Calls.{run_kept}
use Rattle.invariant.specs.Proofs.Laws.Settling.{settled_by_lem}
use Rattle.invariant.specs.Proofs.Reports.Ack.{frame_ack}
use Rattle.invariant.specs.Proofs.Times.Between.{frame_standing}
use Rattle.invariant.specs.Read.{Stopped, flag_calls}
use Rattle.invariant.specs.Reports.{ack_in}
use Rattle.invariant.specs.Times.{standing_in}

-- A flagged frame leaves the store.
store_left : (s : List (List ℕ)) (i h : ℕ) (payload store : List ℕ) → (frame_of s i true h payload store).store ≡ store
unfolding store_by taken_of flagged
store_left s i h payload store = frame_cases s i true h payload store (λ (o : FrameOutcome). o.store ≡ store) (λ e. refl) (λ e f. refl) (λ e f. refl)

run_append : (x : Receiver) (a b : List ReceiverCall) → receiver_run x (a ++ b) ≡ receiver_run (receiver_run x a) b
run_append x [] b = refl
run_append x (c ∷ a) b = run_append (receiver_after x c) a b

pub flagged_run : (x : Receiver) (P n : ℕ) → receiver_run x (flag_calls P n) ≡ record { rows = flagged_rows P x.store n x.rows; store = x.store }
unfolding flagged_rows
flagged_run x P zero = refl
flagged_run x P (suc n) =
    let rest = flagged_run x P n in
    run_append x (flag_calls P n) (Frame n true 0 (replicate P 0) ∷ [])
    ∙ ap (λ (y : Receiver). receiver_after y (Frame n true 0 (replicate P 0))) rest
    ∙ (λ i. record { rows = (frame_of (flagged_rows P x.store n x.rows) n true 0 (replicate P 0) x.store).rows; store = store_left (flagged_rows P x.store n x.rows) n 0 (replicate P 0) x.store i })

pub anew_run : (s : List (List ℕ)) (store : List ℕ) → anew_answer s (length store) ≡ 0
    → (receiver_run (record { rows = s; store = store }) (flag_calls (group_at s).payload (ports_in (group_at s)))).rows ≡ anew_rows s store
unfolding anew_answer anew_rows
anew_run s store = go (anew_fits (group_at s) (ports_in (group_at s)) (length s) (length store))
  where
    go : (b : Bool) → ◌≡◌ {A = ℕ} (cond b 0 9) 0
        → (receiver_run (record { rows = s; store = store }) (flag_calls (group_at s).payload (ports_in (group_at s)))).rows
        ≡ cond b (flagged_rows (group_at s).payload store (ports_in (group_at s)) s) s
    go true e = ap (λ (x : Receiver). x.rows) (flagged_run (record { rows = s; store = store }) (group_at s).payload (ports_in (group_at s)))
    go false e = absurd (omega arith)

-- States and RS-Ack stay, on every state.
module _ (P : ℕ) (store : List ℕ) (s : List (List ℕ)) where
  ack_left : (n : ℕ) → ack_in (flagged_rows P store n s) ≡ ack_in s
  unfolding flagged_rows
  ack_left zero = refl
  ack_left (suc n) = frame_ack (flagged_rows P store n s) n true 0 (replicate P 0) store ∙ ack_left n

  standing_left : (port n : ℕ) → standing_in (flagged_rows P store n s) port ≡ standing_in s port
  unfolding flagged_rows
  standing_left port zero = refl
  standing_left port (suc n) = frame_standing port (flagged_rows P store n s) n true 0 (replicate P 0) store ∙ standing_left port n

module _ (s : List (List ℕ)) (store : List ℕ) where
  abbrev f : Bool
  f = anew_fits (group_at s) (ports_in (group_at s)) (length s) (length store)

  pub anew_ack : ack_in (anew_rows s store) ≡ ack_in s
  unfolding anew_rows
  anew_ack = cond_by (λ t. ack_in t ≡ ack_in s) f (flagged_rows (group_at s).payload store (ports_in (group_at s)) s) s (λ e. ack_left (group_at s).payload store s (ports_in (group_at s))) (λ e. refl)

  pub anew_standing : (port : ℕ) → standing_in (anew_rows s store) port ≡ standing_in s port
  unfolding anew_rows
  anew_standing port =
      cond_by (λ t. standing_in t port ≡ standing_in s port) f (flagged_rows (group_at s).payload store (ports_in (group_at s)) s) s
      (λ e. standing_left (group_at s).payload store s port (ports_in (group_at s))) (λ e. refl)

-- What a flagged frame leaves of its port, and what follows for all ports leaves of it.

record Lost (q : Step) : Type 0 where
  count : q.count ≡ 0
  failed : q.failed ≡ 1

passed_lost : (g : Group) (store : List ℕ) (i : ℕ) (q : Step) (whole : Bool) → Lost q → Lost (passed_step q whole)
unfolding passed_step
passed_lost g store i q whole o = record { count = o.count; failed = o.failed }

cleared_lost : (q : Step) (since : Bool) → Lost q → Lost (cleared_step q since)
unfolding cleared_step
cleared_lost q since o = record { count = o.count; failed = o.failed }

settled_lost : (n : ℕ) (store : List ℕ) (a : List (List ℕ)) (j : ℕ) → j < n → rows_for n ≤ length a → Lost (port_at a j).step → Lost (port_at (settled_of n store a) j).step
settled_lost n store a j c long o =
    settled_by_lem (λ (r : List (List ℕ)). Lost (port_at r j).step) n store a long
    o
    (λ b q f w. rw (passed_of_port (group_at a) store n a j c long) (passed_lost (group_at a) store j (port_at a j).step _ o))
    (λ b w. rw (begun_port (group_at a) n a j c long) (cleared_lost (port_at a j).step _ o))
    (λ b q. rw (stopped_port (group_at a) n a j c long) (cleared_lost (port_at a j).step _ o))
    (λ b q.
    let z : List (List ℕ) = stopped_of (group_at a) n a in
    let l : rows_for n ≤ length z = rw (length_stopped (group_at a) n a) long in
    rw (begun_port (group_at z) n z j c l) (cleared_lost (port_at z j).step _ (rw (stopped_port (group_at a) n a j c long) (cleared_lost (port_at a j).step _ o))))

flag_lost : (g : Group) (q : Step) → Lost (taken_of g q true false 0).step
unfolding taken_of flagged
flag_lost g q = record { count = refl; failed = refl }

-- one flagged frame
module _ (store : List ℕ) (i : ℕ) (s : List (List ℕ)) (b : i < ports_in (group_at s)) (long : rows_for (ports_in (group_at s)) ≤ length s) (j : ℕ) (c : j < ports_in (group_at s)) (o : j ≢ i → Lost (port_at s j).step) where
  abbrev n : ℕ
  n = ports_in (group_at s)

  abbrev t : Taken
  t = taken_of (group_at s) (step_at s i) true false 0

  abbrev a : List (List ℕ)
  a = port_rows (group_at s).kind s i (taken_of (group_at s) (step_at s i) true false 0) 0

  here : Lost (port_at a j).step
  here =
      ⊎_elim (λ (e : j ≡ i). rw (e, frame_port (group_at s).kind s i t 0 n b long) (flag_lost (group_at s) (step_at s i)))
      (λ (d : j ≢ i). rw (frame_other (group_at s).kind s i t 0 j d) (o d))
      (eq_or_ne j i)

  port_lost : Lost (port_at (flagged_port store i s) j).step
  unfolding flagged_port settled_by
  port_lost =
      cond_by (λ r. Lost (port_at r j).step) t.settles (settled_of n store a) a (λ e. settled_lost n store a j c (rw (length_frame (group_at s).kind s i t 0) long) here) (λ e. here)

-- all of them
ports_lost : (store : List ℕ) (s : List (List ℕ)) → 0 < length s → rows_for (ports_in (group_at s)) ≤ length s → (k : ℕ) → k ≤ ports_in (group_at s) → (j : ℕ) → j < k → Lost (port_at (flagged_ports store k s) j).step
unfolding flagged_ports
ports_lost store s some long zero h j c = absurd (not-suc-le-zero c)
ports_lost store s some long (suc k) h j c =
    let u = flagged_ports store k s in
    let same : ports_in (group_at u) ≡ ports_in (group_at s) = same_ports (group_at u) (group_at s) (ports_sizes store k s some) in
    let l : length u ≡ length s = length_flagged_ports store k s in
    let rest = ports_lost store s some long k (omega arith) j in
    port_lost store k u (rw same h) (rw (same, l) long) j (rw same (omega arith)) (λ d. rest (omega arith))

-- Nobody is in step, so nobody is readable, and receiving has stopped.

lost_step : (g : Group) (q : Step) → Lost q → in_step g q ≡ false
unfolding in_step in_step_at
lost_step g q o = let some = frames_some g.kind in rw o.count (lt-leb (frames g.kind * 2) 0 (omega arith))

unreadable : (g : Group) (q : Step) → in_step g q ≡ false → not (readable g q) ≡ true
unfolding readable
unreadable g q e = rw e (go (flag_of g.begun))
  where
    go : (b : Bool) → not (b && false && (flag_of q.joined || flag_of q.ever_since)) ≡ true
    go true = refl
    go false = refl

all_lost : (t : List (List ℕ)) → Kept t → ((j : ℕ) → j < ports_in (group_at t) → Lost (port_at t j).step) → Stopped t
unfolding silent
all_lost t k o =
    record {
      begun = fails (flag_of (group_at t).begun) (λ b. clash (every (group_at t).count (λ i. not (readable (group_at t) (step_at t i)))) quiet (k.settled.heard b));
      flagged = λ i b. rw (own i b).failed refl;
      lost = λ i b. lost_step (group_at t) (step_at t i) (own i b);
    }
  where
    own : (i : ℕ) → i < ports_in (group_at t) → Lost (step_at t i)
    own i b = rw (port_step t i) at (o i b)

    quiet : every (group_at t).count (λ i. not (readable (group_at t) (step_at t i))) ≡ true
    quiet =
        every_all (group_at t).count (λ i. not (readable (group_at t) (step_at t i)))
        (λ i b. unreadable (group_at t) (step_at t i) (lost_step (group_at t) (step_at t i) (own i (rw (ports_are (group_at t) k.lasting.group.sizes) b))))

fits_true : (b : Bool) → ◌≡◌ {A = ℕ} (cond b 0 9) 0 → b ≡ true
fits_true true e = refl
fits_true false e = absurd (omega arith)

pub anew_stops : (s : List (List ℕ)) (store : List ℕ) → Kept s → anew_answer s (length store) ≡ 0 → Stopped (anew_rows s store)
unfolding anew_answer anew_rows
anew_stops s store k e = rw fit (rw is stopped)
  where
    n : ℕ
    n = ports_in (group_at s)

    fit : anew_fits (group_at s) (ports_in (group_at s)) (length s) (length store) ≡ true
    fit = fits_true (anew_fits (group_at s) (ports_in (group_at s)) (length s) (length store)) e

    is : flagged_rows (group_at s).payload store (ports_in (group_at s)) s ≡ flagged_ports store (ports_in (group_at s)) s
    is = flagged_rows_lem s store (anew_fits_lem s store fit) (ports_in (group_at s)) (omega arith)

    t : List (List ℕ)
    t = flagged_ports store (ports_in (group_at s)) s

    t_kept : Kept (flagged_ports store (ports_in (group_at s)) s)
    t_kept =
        subst Kept (ap (λ (x : Receiver). x.rows) (flagged_run (record { rows = s; store = store }) (group_at s).payload (ports_in (group_at s))) ∙ is)
        (run_kept (record { rows = s; store = store }) (flag_calls (group_at s).payload (ports_in (group_at s))) k)

    rows_long : rows_for (ports_in (group_at s)) ≤ length s
    rows_long = rw (ports_are (group_at s) k.lasting.group.sizes) (let r = k.lasting.rows in omega arith)

    same : ports_in (group_at t) ≡ ports_in (group_at s)
    same = same_ports (group_at t) (group_at s) (ports_sizes store n s (omega arith))

    stopped : Stopped (flagged_ports store (ports_in (group_at s)) s)
    stopped = all_lost t t_kept (λ j b. ports_lost store s (omega arith) rows_long n (omega arith) j (rw same at b))
