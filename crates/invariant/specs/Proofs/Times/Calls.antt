-- Two receivers that are the same but for times give the same at each call, and stay so.
use Rattle.std.specs.Prelude.{◌≡◌, refl, ◌≢◌, List, [], ◌∷◌, ℕ, length}
use Rattle.std.proofs.Common.{ap, ◌∙◌}
use Rattle.invariant.specs.Calls.{Fetch, Frame, Receiver, ReceiverCall, receiver_after, receiver_run, started_with}
use Rattle.invariant.specs.Proofs.Times.Frames.{frame_same}
use Rattle.invariant.specs.Proofs.Times.Reports.{fetch_same}
use Rattle.invariant.specs.Proofs.Times.Rows.{SameButTimes}
use Rattle.invariant.specs.Proofs.Times.Shown.{shown_same}
use Rattle.invariant.specs.Proofs.Times.Start as Start
use Rattle.invariant.specs.Times.{Outcome, SameShown, outcome_of, outcomes_of}
use Rattle.receiver.specs.Starting.{start_as_answer}

record Same (x y : Receiver) : Type 0 where
  rows : SameButTimes x.rows y.rows
  store : x.store ≡ y.store

outcome_same : (x y : Receiver) → Same x y → (c : ReceiverCall) → outcome_of x c ≡ outcome_of y c
outcome_same x y o (Frame port failed h payload) =
    let f = frame_same o.rows port failed h payload y.store in
    rw (o.store, f.answer, f.store) refl
outcome_same x y o (Fetch out report) =
    let f = fetch_same o.rows y.store out report in
    rw (o.store, f.answer, f.out, f.report) refl

call_same : (x y : Receiver) → Same x y → (c : ReceiverCall) → Same (receiver_after x c) (receiver_after y c)
call_same x y o (Frame port failed h payload) =
    let f = frame_same o.rows port failed h payload y.store in
    record { rows = rw o.store f.rows; store = rw o.store f.store }
call_same x y o (Fetch out report) = record { rows = rw o.store (fetch_same o.rows y.store out report).rows; store = o.store }

run_same : (x y : Receiver) → Same x y → (calls : List ReceiverCall) → Same (receiver_run x calls) (receiver_run y calls)
run_same x y o [] = o
run_same x y o (c ∷ calls) = run_same (receiver_after x c) (receiver_after y c) (call_same x y o c) calls

all_same : (x y : Receiver) → Same x y → (calls : List ReceiverCall) → outcomes_of x calls ≡ outcomes_of y calls
all_same x y o [] = refl
all_same x y o (c ∷ calls) =
    let rest : outcomes_of (receiver_after x c) calls ≡ outcomes_of (receiver_after y c) calls = all_same (receiver_after x c) (receiver_after y c) (call_same x y o c) calls in
    ap (λ (a : Outcome). a ∷ outcomes_of (receiver_after x c) calls) (outcome_same x y o c) ∙ ap (λ (l : List Outcome). outcome_of y c ∷ l) rest

module _ (kind count P W : ℕ) (hold restore hold₂ restore₂ : List ℕ) (rows rows₂ : List (List ℕ)) (store : List ℕ) where
  started : start_as_answer kind count P W (length store) hold restore (length rows) ≡ 0 → start_as_answer kind count P W (length store) hold₂ restore₂ (length rows₂) ≡ 0
      → Same (started_with kind count P W hold restore rows store) (started_with kind count P W hold₂ restore₂ rows₂ store)
  started e f = record { rows = Start.started_same kind count P W (length store) hold restore hold₂ restore₂ rows rows₂ e f; store = refl }

  pub times_apart : start_as_answer kind count P W (length store) hold restore (length rows) ≡ 0 → start_as_answer kind count P W (length store) hold₂ restore₂ (length rows₂) ≡ 0
      → (calls : List ReceiverCall)
      → outcomes_of (started_with kind count P W hold restore rows store) calls ≡ outcomes_of (started_with kind count P W hold₂ restore₂ rows₂ store) calls
  times_apart e f calls = all_same (started_with kind count P W hold restore rows store) (started_with kind count P W hold₂ restore₂ rows₂ store) (started e f) calls

  pub times_shown : start_as_answer kind count P W (length store) hold restore (length rows) ≡ 0 → start_as_answer kind count P W (length store) hold₂ restore₂ (length rows₂) ≡ 0
      → (calls : List ReceiverCall)
      → SameShown (receiver_run (started_with kind count P W hold restore rows store) calls).rows (receiver_run (started_with kind count P W hold₂ restore₂ rows₂ store) calls).rows
  times_shown e f calls = shown_same (run_same (started_with kind count P W hold restore rows store) (started_with kind count P W hold₂ restore₂ rows₂ store) (started e f) calls).rows

pub times_refused : (kind count P W : ℕ) (hold restore hold₂ restore₂ : List ℕ) (rows : List (List ℕ)) (store : List ℕ)
    → start_as_answer kind count P W (length store) hold restore (length rows) ≡ start_as_answer kind count P W (length store) hold₂ restore₂ (length rows)
    → start_as_answer kind count P W (length store) hold restore (length rows) ≢ 0
    → started_with kind count P W hold restore rows store ≡ started_with kind count P W hold₂ restore₂ rows store
times_refused kind count P W hold restore hold₂ restore₂ rows store e d = rw (Start.refused_same kind count P W (length store) hold restore hold₂ restore₂ rows e d) refl
