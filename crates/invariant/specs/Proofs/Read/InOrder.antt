-- What is heard after each report is of that report's epoch, and so the epochs heard come in order while receiving goes on.
use Rattle.std.specs.Prelude.{◌≡◌, refl, Bool, true, false, cond, List, [], ◌∷◌, ◌++◌, ℕ, get_or, length}
use Rattle.std.proofs.Common.{ap, subst, ◌∙◌, inl, inr}
use Rattle.ground.specs.Truth.{and_left, and_right}
use Rattle.phases.specs.Sizes.{ports_in}
use Rattle.receiver.specs.Fetch.{due_in, fetch_of, lent_fits}
use Rattle.receiver.specs.Heard.{heard_of, said_at}
use Rattle.receiver.specs.Report.{ruling_epoch}
use Rattle.receiver.specs.Starting.{start_as_answer}
use Rattle.rows.specs.declared.group.Group.{Group}
use Rattle.rows.specs.Group.{group_at}
use Rattle.step.specs.Arrival.{flag_of}
use Rattle.invariant.specs.Calls.{Fetch, Frame, Receiver, ReceiverCall, receiver_after, receiver_run, started_with}
use Rattle.invariant.specs.Proofs.Numbered.{kind_is}
use Rattle.invariant.specs.Proofs.Read.Heard.{heard_epoch, heard_from, heard_reported}
use Rattle.invariant.specs.Proofs.Reports.Order.{in_order_lem}
use Rattle.invariant.specs.Proofs.Ruled.{run_more}
use Rattle.invariant.specs.Read.{AllSaidIn, HeardFrom, SaidIn, heard_in, heards_of}
use Rattle.invariant.specs.Read.HeardFrom.{nothing, said}
use Rattle.invariant.specs.Reports.{Unstopped, epoch_given, gives, next_report, reports_of, successive}

-- the first byte of a packet that is heard
said_one : (g : Group) (s : List (List ℕ)) (i : ℕ) → get_or (said_at g s i) 0 0 ≡ 1
unfolding said_at
said_one g s i = refl

module _ (kind count P W : ℕ) (hold restore : List ℕ) (rows : List (List ℕ)) (store : List ℕ) (e : start_as_answer kind count P W (length store) hold restore (length rows) ≡ 0) where
  abbrev start : Receiver
  start = started_with kind count P W hold restore rows store

  -- after any calls: nothing, or the epoch before the oldest
  now_said : (calls : List ReceiverCall) → SaidIn (ruling_epoch (group_at (receiver_run start calls).rows)) (heard_in (receiver_run start calls))
  now_said calls = go (heard_from g now (ports_in g))
    where
      now : List (List ℕ)
      now = (receiver_run start calls).rows

      g : Group
      g = group_at (receiver_run start calls).rows

      go : HeardFrom g now (ports_in g) → SaidIn (ruling_epoch g) (heard_of g now (ports_in g))
      go (said i b good low is) =
          let one : get_or (heard_of g now (ports_in g)) 0 0 ≡ 1 = ap (λ (l : List ℕ). get_or l 0 0) is ∙ said_one g now i in
          inr (one, heard_epoch kind count P W hold restore rows store e calls one)
      go (nothing none is) = inl is

  -- after a report: nothing, or the report's epoch
  given_said : (done : List ReceiverCall) (out report : List ℕ) → gives (receiver_run start done) out report ≡ true
      → SaidIn (epoch_given (receiver_run start done)) (heard_in (receiver_after (receiver_run start done) (Fetch out report)))
  given_said done out report t =
      let x : Receiver = receiver_run start done in
      let g : Group = group_at x.rows in
      let a : Bool = lent_fits x.rows x.store out report in
      let d : Bool = due_in g (ports_in g) x.rows in
      let now : SaidIn (ruling_epoch (group_at (fetch_of x.rows x.store out report).rows)) (heard_in (receiver_after x (Fetch out report))) =
      subst (λ (y : Receiver). SaidIn (ruling_epoch (group_at y.rows)) (heard_in y)) (run_more start done (Fetch out report)) (now_said (done ++ (Fetch out report ∷ []))) in
      subst (λ (n : ℕ). SaidIn n (heard_in (receiver_after x (Fetch out report))))
      (heard_reported kind count P W hold restore rows store e done out report (record { fitting = and_left a d t; due = and_right a d t }))
      now

  -- by the calls, after some that are done
  each_said : (done calls : List ReceiverCall) → AllSaidIn (reports_of (receiver_run start done) calls) (heards_of (receiver_run start done) calls)
  each_said done [] = tt
  each_said done (Frame i failed h payload ∷ calls) =
      subst (λ (y : Receiver). AllSaidIn (reports_of y calls) (heards_of y calls)) (run_more start done (Frame i failed h payload)) (each_said (done ++ (Frame i failed h payload ∷ [])) calls)
  each_said done (Fetch out report ∷ calls) =
      go (gives (receiver_run start done) out report) refl
      (subst (λ (y : Receiver). AllSaidIn (reports_of y calls) (heards_of y calls)) (run_more start done (Fetch out report)) (each_said (done ++ (Fetch out report ∷ [])) calls))
    where
      x : Receiver
      x = receiver_run start done

      y : Receiver
      y = receiver_after (receiver_run start done) (Fetch out report)

      go : (t : Bool) → gives x out report ≡ t → AllSaidIn (reports_of y calls) (heards_of y calls)
          → AllSaidIn (cond t (epoch_given x ∷ reports_of y calls) (reports_of y calls)) (cond t (heard_in y ∷ heards_of y calls) (heards_of y calls))
      go true t rest = (given_said done out report t, rest)
      go false t rest = rest

  pub heard_each : (calls : List ReceiverCall) → AllSaidIn (reports_of start calls) (heards_of start calls)
  heard_each calls = each_said [] calls

  -- while receiving goes on the reports are one epoch after the other
  pub heard_in_order : (before calls : List ReceiverCall)
      → (let x = receiver_run start before in
      flag_of (group_at x.rows).begun ≡ true → Unstopped x calls
      → AllSaidIn (successive kind (next_report (group_at x.rows)) (length (reports_of x calls))) (heards_of x calls))
  heard_in_order before calls b u =
      let x : Receiver = receiver_run start before in
      subst (λ (epochs : List ℕ). AllSaidIn epochs (heards_of x calls))
      (in_order_lem x calls b u ∙ ap (λ (k : ℕ). successive k (next_report (group_at x.rows)) (length (reports_of x calls))) (kind_is kind count P W hold restore rows store e before))
      (each_said before calls)
