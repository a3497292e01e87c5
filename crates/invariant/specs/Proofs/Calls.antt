-- What holds is kept by any calls.
use Rattle.std.specs.Prelude.{◌≡◌, List, [], ◌∷◌, ℕ, length}
use Rattle.invariant.specs.Kept.Group.{Kept}
use Rattle.invariant.specs.Proofs.Kept.Calls.{fetch_kept, frame_kept}
use Rattle.invariant.specs.Proofs.Kept.Start.{started_kept}
use Rattle.receiver.specs.Starting.{start_as_answer}
use Rattle.invariant.specs.Calls.{Fetch, Frame, Receiver, ReceiverCall, receiver_after, receiver_run, started_with}

pub call_kept : (x : Receiver) (c : ReceiverCall) → Kept x.rows → Kept (receiver_after x c).rows
call_kept x (Frame port failed h payload) k = frame_kept x.rows k port failed h payload x.store
call_kept x (Fetch out report) k = fetch_kept x.rows k x.store out report

pub run_kept : (x : Receiver) (calls : List ReceiverCall) → Kept x.rows → Kept (receiver_run x calls).rows
run_kept x [] k = k
run_kept x (c ∷ calls) k = run_kept (receiver_after x c) calls (call_kept x c k)

-- after a start that is answered 0 and any calls
pub kept : (kind count P W : ℕ) (hold restore : List ℕ) (rows : List (List ℕ)) (store : List ℕ) → start_as_answer kind count P W (length store) hold restore (length rows) ≡ 0 → (calls : List ReceiverCall)
    → Kept (receiver_run (started_with kind count P W hold restore rows store) calls).rows
kept kind count P W hold restore rows store e calls = run_kept (started_with kind count P W hold restore rows store) calls (started_kept kind count P W (length store) hold restore rows e)
