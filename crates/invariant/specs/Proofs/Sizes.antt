-- What no call changes: the kind of packet, the count of ports, P and W. And how many ports there are at most.
use Rattle.std.specs.Prelude.{Bool, List, [], ◌∷◌, ℕ, ◌≤◌, ◌<◌, length}
use Rattle.std.proofs.Common.{arith}
use Rattle.invariant.specs.Kept.Group.{Kept}
use Rattle.invariant.specs.Proofs.Arriving.{Counts, after_group, frame_by_lem}
use Rattle.invariant.specs.Proofs.Calls.{call_kept}
use Rattle.ground.specs.Truth.{cond_by}
use Rattle.phases.specs.Laws.Lengths.{length_passed}
use Rattle.phases.specs.Laws.Passed.{passed_group_lem}
use Rattle.phases.specs.Laws.Sizes.{SameSizes, settled_sizes, sizes_stay, sizes_then}
use Rattle.phases.specs.Passing.{passed_of}
use Rattle.phases.specs.Sizes.{ports_in, sized}
use Rattle.receiver.specs.Fetch.{fetch_of}
use Rattle.receiver.specs.Frame.{frame_of}
use Rattle.receiver.specs.Laws.Sizes.{sizes_of}
use Rattle.receiver.specs.Laws.Passed.{passed_count, passed_kind, passed_payload, passed_window}
use Rattle.receiver.specs.Laws.Told.{told_group}
use Rattle.receiver.specs.Report.{reported_of, states_worked_out}
use Rattle.rows.specs.declared.group.Group.{Group}
use Rattle.rows.specs.Group.{group_at}
use Rattle.invariant.specs.Calls.{Fetch, Frame, Receiver, ReceiverCall, port_after, receiver_after, receiver_run, store_after}
use Rattle.receiver.specs.Laws.Outcomes.{fetch_cases}

pub ports_at_most_64 : (g : Group) → ports_in g ≤ 64
unfolding ports_in
ports_at_most_64 g =
    cond_by (λ (m : ℕ). m ≤ 64) (sized g.kind g.count g.payload g.window) g.count 0
    (λ e. (sizes_of g.kind g.count g.payload g.window e).few_ports) (λ e. omega arith)

pub frame_sizes : (s : List (List ℕ)) → Kept s → (i : ℕ) (failed : Bool) (h : ℕ) (payload store : List ℕ) → SameSizes (group_at (frame_of s i failed h payload store).rows) (group_at s)
frame_sizes s k i failed h payload store =
    frame_by_lem (λ (r : List (List ℕ)) (m : List ℕ). SameSizes (group_at r) (group_at s)) s k i failed h payload store (sizes_stay (group_at s))
    (λ (o : Counts s i failed h payload store).
    rw (after_group s i failed h) at (settled_sizes (group_at s).count (store_after s i failed h payload store) (port_after s i failed h) (let l = o.long in omega arith)))

pub fetch_sizes : (s : List (List ℕ)) → Kept s → (store out report : List ℕ) → SameSizes (group_at (fetch_of s store out report).rows) (group_at s)
unfolding reported_of
fetch_sizes s k store out report =
    fetch_cases s store out report (λ r. SameSizes (group_at r) (group_at s)) (sizes_stay (group_at s)) (λ e d. reported)
  where
    m : ℕ
    m = ports_in (group_at s)

    some : 0 < length s
    some = let r = k.lasting.rows in omega arith

    p : List (List ℕ)
    p = passed_of (group_at s) store (ports_in (group_at s)) s

    reported : SameSizes (group_at (states_worked_out (group_at (passed_of (group_at s) store (ports_in (group_at s)) s)) (ports_in (group_at s)) (passed_of (group_at s) store (ports_in (group_at s)) s))) (group_at s)
    reported =
        rw (told_group (group_at p) m p (rw (length_passed (group_at s) store m s) some), passed_group_lem (group_at s) store m s some)
        (record { kind = passed_kind (group_at s); count = passed_count (group_at s); payload = passed_payload (group_at s); window = passed_window (group_at s) })

pub call_sizes : (x : Receiver) (c : ReceiverCall) → Kept x.rows → SameSizes (group_at (receiver_after x c).rows) (group_at x.rows)
call_sizes x (Frame i failed h payload) k = frame_sizes x.rows k i failed h payload x.store
call_sizes x (Fetch out report) k = fetch_sizes x.rows k x.store out report

pub run_sizes : (x : Receiver) (calls : List ReceiverCall) → Kept x.rows → SameSizes (group_at (receiver_run x calls).rows) (group_at x.rows)
run_sizes x [] k = sizes_stay (group_at x.rows)
run_sizes x (c ∷ calls) k =
    sizes_then (group_at (receiver_run (receiver_after x c) calls).rows) (group_at (receiver_after x c).rows) (group_at x.rows)
    (run_sizes (receiver_after x c) calls (call_kept x c k)) (call_sizes x c k)
