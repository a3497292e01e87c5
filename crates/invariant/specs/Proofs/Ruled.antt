-- Where the packet that rules a port comes from, call by call.
use Rattle.std.specs.Prelude.{◌≡◌, refl, ◌⊎◌, ◌≢◌, Bool, true, false, cond, List, [], ◌∷◌, ◌++◌, ℕ, ◌≤◌, ◌<◌}
use Rattle.std.proofs.Common.{sym, subst, ◌∙◌, inr, ⊎_elim, append_assoc, append-nil}
use Rattle.std.proofs.Math.Path.{ap}
use Rattle.std.proofs.Math.Logic.{inl}
use Rattle.std.proofs.lemmas.Bool.{false≢true}
use native.Mathlib.Omega.{arith}
use Rattle.std.proofs.Math.ListN.{length}
use Rattle.invariant.specs.Kept.Group.{Kept}
use Rattle.invariant.specs.Proofs.Arriving.{Counts, after_group, frame_by_lem}
use Rattle.invariant.specs.Proofs.Calls.{run_kept}
use Rattle.invariant.specs.Proofs.Claimed.{taken_claimed}
use Rattle.invariant.specs.Proofs.Kept.Calls.{due_says}
use Rattle.invariant.specs.Proofs.Kept.Start.{started_kept, started_with_lem}
use Rattle.invariant.specs.Proofs.Kept.Taken.{taken_whole}
use Rattle.invariant.specs.Proofs.Laws.Flags.{off_flag}
use Rattle.invariant.specs.Proofs.Laws.Settling.{settled_by_lem}
use Rattle.invariant.specs.Proofs.Sizes.{call_sizes}
use Rattle.ground.specs.Truth.{eq_or_ne}
use Rattle.phases.specs.Laws.Cleared.{begun_port, stopped_port}
use Rattle.phases.specs.Laws.Lengths.{length_passed, length_stopped}
use Rattle.phases.specs.Laws.Passed.{passed_group_lem, passed_of_port}
use Rattle.phases.specs.Passing.{passed_of}
use Rattle.phases.specs.Settling.{stopped_of}
use Rattle.phases.specs.Sizes.{ports_in}
use Rattle.receiver.specs.Fetch.{fetch_of}
use Rattle.receiver.specs.Frame.{frame_of, odd_in, taken_in}
use Rattle.receiver.specs.Laws.Frames.{frame_other, frame_port}
use Rattle.receiver.specs.Laws.Outcomes.{fetch_cases}
use Rattle.receiver.specs.Laws.Passed.{cleared_whole, passed_oldest, step_whole}
use Rattle.receiver.specs.Laws.Sizes.{ports_are}
use Rattle.receiver.specs.Laws.Told.{told_group, told_of_port}
use Rattle.receiver.specs.Report.{reported_of}
use Rattle.receiver.specs.Starting.{group_with, start_as_answer, start_as_rows}
use Rattle.rows.specs.declared.group.Group.{Group}
use Rattle.rows.specs.declared.step.Step.{Step}
use Rattle.rows.specs.Group.{group_at}
use Rattle.rows.specs.Laws.Port.{port_step}
use Rattle.rows.specs.Port.{port_at}
use Rattle.rows.specs.Rows.{rows_for}
use Rattle.rows.specs.Step.{step_at}
use Rattle.step.specs.Arrival.{flag_of}
use Rattle.store.specs.Frames.{packet_in}
use Rattle.store.specs.Marks.{first_mark}
use Rattle.invariant.specs.Calls.{Fetch, Frame, Receiver, ReceiverCall, port_after, receiver_after, receiver_run, started_with, store_after}
use Rattle.invariant.specs.Ruled.{Ruled, AllPassed, AllStay, AllUnruled, OneEpoch, RulesOn, none_rules, passed_in, rows_passed}

module _ (s : List (List ℕ)) (k : Kept s) (i : ℕ) (failed : Bool) (h : ℕ) (payload store : List ℕ) where
  abbrev x : Receiver
  x = record { rows = s; store = store }

  abbrev call : ReceiverCall
  call = Frame i failed h payload

  abbrev n : ℕ
  n = (group_at s).count

  abbrev a : List (List ℕ)
  a = port_after s i failed h

  abbrev st : List ℕ
  st = store_after s i failed h payload store

  same : group_at a ≡ group_at s
  same = after_group s i failed h

  -- a frame leaves what rules
  before : i < n → (j : ℕ) → RulesOn (port_at s j) (port_at a j)
  before b j =
      ⊎_elim
      (λ (e : j ≡ i).
      rw (e, frame_port (group_at s).kind s i (taken_in s i failed h) h n b (let r = k.lasting.rows in omega arith))
      (record { ruling = refl; whole = taken_whole (group_at s) (step_at s i) failed (odd_in s i h) h ∙ ap (λ (q : Step). q.whole) (sym (port_step s i)) }))
      (λ (d : j ≢ i). rw (frame_other (group_at s).kind s i (taken_in s i failed h) h j d) (record { ruling = refl; whole = refl }))
      (eq_or_ne j i)

  pub frame_ruled : Ruled x call (frame_of s i failed h payload store).store (frame_of s i failed h payload store).rows
  frame_ruled =
      frame_by_lem (λ (r : List (List ℕ)) (m : List ℕ). Ruled x call m r) s k i failed h payload store
      (inl (record { ports = λ j c. record { ruling = refl; whole = refl }; oldest = refl }))
      (λ (o : Counts s i failed h payload store).
      settled_by_lem (λ (r : List (List ℕ)). Ruled x call st r) n st a o.long
      (inl (record { ports = λ j c. before o.port j; oldest = ap (λ (g : Group). g.oldest) same }))
      (λ b q f w.
      inr (inr (record {
        begun = b;
        ports = λ j c.
            rw (passed_of_port (group_at a) st n a j c o.long)
            (record { ruling = rw same refl; whole = step_whole (port_at a j).step (first_mark (port_at a j).marks) });
        oldest = ap (λ (g : Group). g.oldest) (passed_group_lem (group_at a) st n a (let l = o.long in omega arith)) ∙ passed_oldest (group_at a) ∙ rw same refl;
        claimed = λ tag bytes h4 j c w. taken_claimed tag bytes h4 s k i failed h payload store o j c w;
      })))
      (λ b w. inr (inl (record { ports = λ j c. rw (begun_port (group_at a) n a j c o.long) (record { whole = cleared_whole (port_at a j).step _ }) })))
      (λ b q. inr (inl (record { ports = λ j c. rw (stopped_port (group_at a) n a j c o.long) (record { whole = cleared_whole (port_at a j).step _ }) })))
      (λ b q.
      let z : List (List ℕ) = stopped_of (group_at a) n a in
      let l : rows_for n ≤ length z = rw (length_stopped (group_at a) n a) o.long in
      inr (inl (record { ports = λ j c. rw (begun_port (group_at z) n z j c l) (record { whole = cleared_whole (port_at z j).step _ }) }))))

module _ (s : List (List ℕ)) (k : Kept s) (store out report : List ℕ) where
  abbrev y : Receiver
  y = record { rows = s; store = store }

  reported : flag_of (group_at s).begun ≡ true → AllPassed y (Fetch out report) store (reported_of (group_at s) store (group_at s).count s)
  unfolding reported_of
  reported on =
      record {
        begun = on;
        claimed = λ tag bytes h4 j c w. inl w;
        ports = λ j c.
            rw (told_of_port (group_at p) (group_at s).count p j c l, passed_of_port (group_at s) store (group_at s).count s j c enough)
            (record { ruling = refl; whole = step_whole (port_at s j).step (first_mark (port_at s j).marks) });
        oldest =
            ap (λ (g : Group). g.oldest) (told_group (group_at p) (group_at s).count p (let q = l in omega arith))
            ∙ ap (λ (g : Group). g.oldest) (passed_group_lem (group_at s) store (group_at s).count s (let q = enough in omega arith))
            ∙ passed_oldest (group_at s);
      }
    where
      enough : rows_for (group_at s).count ≤ length s
      enough = let r = k.lasting.rows in omega arith

      p : List (List ℕ)
      p = passed_of (group_at s) store (group_at s).count s

      l : rows_for (group_at s).count ≤ length (passed_of (group_at s) store (group_at s).count s)
      l = rw (length_passed (group_at s) store (group_at s).count s) enough

  pub fetch_ruled : Ruled y (Fetch out report) store (fetch_of s store out report).rows
  fetch_ruled =
      fetch_cases s store out report (Ruled y (Fetch out report) store) stays (λ e d. inr (inr (rw ports (reported (due_says g (ports_in g) s d).begun))))
    where
      g : Group
      g = group_at s

      ports : ports_in (group_at s) ≡ (group_at s).count
      ports = ports_are (group_at s) k.lasting.group.sizes

      stays : Ruled y (Fetch out report) store s
      stays = inl (record { ports = λ j c. record { ruling = refl; whole = refl }; oldest = refl })

-- of every call
pub call_ruled : (x : Receiver) (c : ReceiverCall) → Kept x.rows → Ruled x c (receiver_after x c).store (receiver_after x c).rows
call_ruled x (Frame i failed h payload) k = frame_ruled x.rows k i failed h payload x.store
call_ruled x (Fetch out report) k = fetch_ruled x.rows k x.store out report

pub run_more : (x : Receiver) (calls : List ReceiverCall) (c : ReceiverCall) → receiver_run x (calls ++ (c ∷ [])) ≡ receiver_after (receiver_run x calls) c
run_more x [] c = refl
run_more x (d ∷ calls) c = run_more (receiver_after x d) calls c

module _ (x : Receiver) (k₀ : Kept x.rows) where
  now_kept : (calls : List ReceiverCall) → Kept (receiver_run x calls).rows
  now_kept calls = run_kept x calls k₀

  -- One call more: by `call_ruled` all ruling packets stay, none rules any more, or all have passed in this call. In the first case they are of the epoch of which they were, in the last of the one that the call passed.
  call_one : (calls : List ReceiverCall) (c : ReceiverCall) → OneEpoch x calls → OneEpoch x (calls ++ (c ∷ []))
  call_one calls c o = ⊎_elim stay (λ (u : AllUnruled now.rows next.rows ⊎ AllPassed now c next.store next.rows). ⊎_elim unruled passed u) (call_ruled now c (now_kept calls))
    where
      now : Receiver
      now = receiver_run x calls

      next : Receiver
      next = receiver_after now c

      then_is : receiver_run x (calls ++ (c ∷ [])) ≡ next
      then_is = run_more x calls c

      count : (group_at next.rows).count ≡ (group_at now.rows).count
      count = (call_sizes now c (now_kept calls)).count

      stands_is : (b : Bool) (old : List ℕ) (j : ℕ) → flag_of (cond b 1 0) ≡ true → cond b (packet_in (group_at now.rows) j next.store) old ≡ packet_in (group_at now.rows) j next.store
      stands_is true old j e = refl
      stands_is false old j e = absurd (false≢true e)

      stay : AllStay now.rows next.rows → OneEpoch x (calls ++ (c ∷ []))
      stay a = go o
        where
          go : OneEpoch x calls → OneEpoch x (calls ++ (c ∷ []))
          go (none_rules none) =
              none_rules
              (rw then_is (λ j b.
              let b : j < (group_at now.rows).count = rw (← count) b in
              rw (a.ports j b).whole (none j b)))
          go (passed_in earlier call later split packets oldest) =
              passed_in earlier call (later ++ (c ∷ []))
              (ap (λ (l : List ReceiverCall). l ++ (c ∷ [])) split ∙ append_assoc earlier (call ∷ later) (c ∷ []))
              (rw then_is (λ j b w.
              let b : j < (group_at now.rows).count = rw (← count) b in
              (a.ports j b).ruling ∙ packets j b (rw (a.ports j b).whole at w)))
              (rw then_is (a.oldest ∙ oldest))

      unruled : AllUnruled now.rows next.rows → OneEpoch x (calls ++ (c ∷ []))
      unruled a =
          none_rules
          (rw then_is (λ j b. off_flag (port_at next.rows j).step.whole (a.ports j (rw (← count) b)).whole))

      passed : AllPassed now c next.store next.rows → OneEpoch x (calls ++ (c ∷ []))
      passed a =
          passed_in calls c [] refl
          (rw then_is (λ j b w.
          let p = a.ports j (rw (← count) b) in
          p.ruling ∙ stands_is (first_mark (port_at (rows_passed now c) j).marks) (port_at (rows_passed now c) j).ruling j (rw p.whole at w)))
          (rw then_is a.oldest)

  run_one : (done calls : List ReceiverCall) → OneEpoch x done → OneEpoch x (done ++ calls)
  run_one done [] o = rw (append-nil done) o
  run_one done (c ∷ calls) o = subst (λ (l : List ReceiverCall). OneEpoch x l) (append_assoc done (c ∷ []) calls) (run_one (done ++ (c ∷ [])) calls (call_one done c o))

pub one_epoch : (kind count P W : ℕ) (hold restore : List ℕ) (rows : List (List ℕ)) (store : List ℕ) → start_as_answer kind count P W (length store) hold restore (length rows) ≡ 0 → (calls : List ReceiverCall)
    → OneEpoch (started_with kind count P W hold restore rows store) calls
one_epoch kind count P W hold restore rows store e calls =
    let x : Receiver = started_with kind count P W hold restore rows store in
    let k : Kept x.rows = started_kept kind count P W (length store) hold restore rows e in
    let group : group_at (start_as_rows kind count P W (length store) hold restore rows) ≡ group_with kind count P W = started_with_lem kind count P W (length store) hold restore rows e in
    run_one x k [] calls (none_rules (λ j b. off_flag (port_at x.rows j).step.whole ((k.lasting.ports j b).unruled (rw group refl))))
