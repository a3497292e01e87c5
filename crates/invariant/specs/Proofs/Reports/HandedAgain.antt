-- 'the host may hand the frame again after a report': a frame answered 11, handed again after a report, with no other frame of that port and no stop in between, is answered 0 and stored.
-- The idea: while a port is handed nothing, its run, its joining and the packet being gathered stand still (`Still`). Each epoch passed brings the window nearer to its tag by an epoch's frames, never past it; so after a report the tag lies in the window.
use Rattle.std.specs.Prelude.{◌≡◌, ◌≢◌, Bool, true, false, cond, ◌&&◌, eqb, get_or}
use Rattle.std.proofs.Math.Path.{refl}
use Rattle.std.proofs.Common.{sym, ap, ◌∙◌, ⊎_elim, true≢false, arith, eq-eqb, ne_eqb, lt-ltb}
use mathlib.Core.List.{List, [], ◌∷◌}
use Prim.Native.Nat.{ℕ, ◌+◌, ◌-◌, ◌*◌, ◌≤◌, ◌<◌}
use Rattle.std.proofs.Math.ListN.{length}
use Rattle.invariant.specs.Kept.Group.{Kept, Lasting}
use Rattle.invariant.specs.Kept.Port.{Windowed, offset}
use Rattle.invariant.specs.Proofs.Arriving.{Counts, after_group, frame_by_lem}
use Rattle.invariant.specs.Proofs.Calls.{call_kept, run_kept}
use Rattle.invariant.specs.Proofs.Kept.Calls.{Due, due_says}
use Rattle.invariant.specs.Proofs.Kept.Passing.{ahead}
use Rattle.invariant.specs.Proofs.Kept.WithinCall.{brought_owes_nothing, lasting_frame, windowed}
use Rattle.invariant.specs.Proofs.Laws.Flags.{true_or_false}
use Rattle.invariant.specs.Proofs.Laws.Settling.{settled_by_lem}
use Rattle.invariant.specs.Proofs.Laws.Window.{distance_passed, tag_next}
use Rattle.invariant.specs.Proofs.Reports.Groups.{fetch_none}
use Rattle.invariant.specs.Proofs.Sizes.{call_sizes, run_sizes}
use Rattle.ground.specs.Truth.{and_left, and_right, clash, cond_by}
use Rattle.judge.specs.Seen.{size_of}
use Rattle.packet.specs.Kinds.{frames}
use Rattle.packet.specs.Theorems.Tags.{frames_two}
use Rattle.phases.specs.Due.{brought, silent}
use Rattle.phases.specs.Laws.Lengths.{length_passed}
use Rattle.phases.specs.Laws.Passed.{passed_group_lem, passed_of_port}
use Rattle.phases.specs.Laws.Sizes.{SameSizes}
use Rattle.phases.specs.Passing.{passed_group, passed_of, passed_step}
use Rattle.phases.specs.Sizes.{ports_in, store_for}
use Rattle.phases.specs.Theorems.Settled.{passed_begun}
use Rattle.receiver.specs.Fetch.{due_in, fetch_of, lent_fits, rows_if_due}
use Rattle.receiver.specs.Frame.{FrameOutcome, frame_of, frame_refusal, odd_in, store_by, taken_frame, taken_in}
use Rattle.receiver.specs.Laws.Answers.{Fitting, fitting_none, unrefused}
use Rattle.receiver.specs.Laws.Frames.{frame_other}
use Rattle.receiver.specs.Laws.Outcomes.{answered_above, frame_cases, taken_answer}
use Rattle.receiver.specs.Laws.Passed.{step_joined}
use Rattle.receiver.specs.Laws.Sizes.{ports_are}
use Rattle.receiver.specs.Laws.Told.{told_group, told_of_port, with_ack}
use Rattle.receiver.specs.Report.{reply_ports, reported_of}
use Rattle.reply.specs.Telling.{ack_of}
use Rattle.rows.specs.declared.group.Group.{Group}
use Rattle.rows.specs.declared.step.Step.{Step}
use Rattle.rows.specs.Group.{group_at}
use Rattle.rows.specs.Laws.Port.{port_step}
use Rattle.rows.specs.Packets.{packets_at}
use Rattle.rows.specs.Port.{Port, port_at}
use Rattle.rows.specs.Rows.{rows_for}
use Rattle.rows.specs.Step.{step_at}
use Rattle.step.specs.Arrival.{frame_dropped, counts_on, distance_in, flag_of, flagged, joining, keeps, outside, run_of, taken_of, is_kept, kept_at}
use Rattle.step.specs.declared.arrival.Taken.{Taken}
use Rattle.step.specs.declared.run.Run.{Run}
use Rattle.step.specs.Laws.Arrival.{ran_on, stepped, taken_by, taken_keeps}
use Rattle.step.specs.OwnCount.{ends_odd}
use Rattle.step.specs.Run.{in_step_at, run_on}
use Rattle.store.specs.Frames.{place_in, stored_at}
use Rattle.store.specs.Laws.Stands.{stands_put}
use Rattle.store.specs.Laws.Stored.{length_stored}
use Rattle.store.specs.Marks.{first_mark}
use Rattle.invariant.specs.Calls.{Fetch, Frame, Receiver, ReceiverCall, port_after, receiver_after, receiver_run, store_after}
use Rattle.invariant.specs.Reports.{Given, Others, Stored, Unstopped, epoch_given, gives, reports_of, stops_with}

-- What 11 says of a port.
record Full (g : Group) (s : Step) (failed odd : Bool) (h : ℕ) : Type 0 where
  unflagged : failed ≡ false
  on : stepped g s odd h ≡ true
  begun : flag_of g.begun ≡ true
  joined : flag_of s.joined ≡ true

full : (g : Group) (s : Step) (failed odd : Bool) (h : ℕ) → (taken_of g s failed odd h).answer ≡ 11 → Full g s failed odd h
unfolding flagged counts_on frame_dropped keeps outside joining
full g s failed odd h =
    taken_by (λ (t : Taken). t.answer ≡ 11 → Full g s failed odd h) g s failed odd h
    (λ f e. absurd (omega arith))
    (λ f o e. absurd (omega arith))
    (λ f o b e. absurd (omega arith))
    (λ f o b j w e. absurd (omega arith))
    (λ f o b j w e. record { unflagged = f; on = o; begun = b; joined = j })
    (λ f o b j t w e. absurd (omega arith))
    (λ f o b j w e. absurd (omega arith))

-- The port as it stands while it is not handed anything: only the window moves, and never away from it.
record Still (run : Run) (gathering : List ℕ) (joined far : ℕ) (g : Group) (q : Port) : Type 0 where
  run_is : run_of q.step ≡ run
  gathering_is : q.gathering ≡ gathering
  joined_is : q.step.joined ≡ joined
  begun : flag_of g.begun ≡ true
  within : offset g q.step ≤ far

step_run : (q : Step) (w : Bool) → run_of (passed_step q w) ≡ run_of q
unfolding passed_step
step_run q w = refl

offset_passed : (g : Group) (q : Step) (w : Bool) → frames g.kind ≤ offset g q → offset (passed_group g) (passed_step q w) + frames g.kind ≡ offset g q
unfolding passed_group passed_step
offset_passed g q w h = distance_passed g (passed_group g) q.next refl refl h

ack_offset : (g : Group) (ack : ℕ) (q : Step) → offset (with_ack g ack) q ≡ offset g q
unfolding distance_in
ack_offset g ack q = refl

module _ (i : ℕ) (run : Run) (gathering : List ℕ) (joined : ℕ) (on : flag_of joined ≡ true) where
  abbrev StillIn : ℕ → List (List ℕ) → Type 0
  StillIn far s = Still run gathering joined far (group_at s) (port_at s i)

  -- an epoch passed brings the window nearer
  passed_still : (far less n : ℕ) (s : List (List ℕ)) → Lasting s → (group_at s).count ≡ n → (store : List ℕ) → brought (group_at s) s n ≡ true → i < n → StillIn far s
      → far ≤ less + frames (group_at s).kind → StillIn less (passed_of (group_at s) store n s)
  passed_still far less n s k c store due b o l =
      let g : Group = group_at s in
      let q : Step = (port_at s i).step in
      let enough : rows_for n ≤ length s = (let r = k.rows in let e = c in omega arith) in
      let first : Bool = first_mark (port_at s i).marks in
      let j : flag_of (port_at s i).step.joined ≡ true = rw o.joined_is on in
      let far-on : frames g.kind ≤ offset g q =
      ahead g q (port_at s i).marks (k.ports i (let e = c in omega arith)).kept o.begun (brought_owes_nothing g s n due i b) j in
      let near = offset_passed g q (first_mark (port_at s i).marks) far-on in
      let w = o.within in
      rw (passed_group_lem g store n s (omega arith), passed_of_port g store n s i b enough)
      (record {
        run_is = step_run q first ∙ o.run_is;
        gathering_is = o.gathering_is;
        joined_is = step_joined q first ∙ o.joined_is;
        begun = rw (passed_begun g) o.begun;
        within = omega arith;
      })

  -- frames of other ports
  frame_still : (far : ℕ) (s : List (List ℕ)) → Kept s → i < (group_at s).count → (j : ℕ) (failed : Bool) (h : ℕ) (payload store : List ℕ) → j ≢ i
      → stops_with s j failed h payload store ≡ false → StillIn far s → StillIn far (frame_of s j failed h payload store).rows
  frame_still far s k b j failed h payload store d goes o =
      frame_by_lem (λ (r : List (List ℕ)) (m : List ℕ). StillIn far r) s k j failed h payload store o
      (λ (c : Counts s j failed h payload store).
      let heard : silent (group_at s) (port_after s j failed h) (group_at s).count ≡ true → ⊥ =
      (λ q. true≢false (sym (stops (eq-eqb (frame_refusal s j (length payload) (length store)) 0 c.unrefused) (ne_eqb (taken_in s j failed h).answer 11 c.answer) q) ∙ goes)) in
      settled_by_lem (StillIn far) n st a c.long
      there
      (λ e q z w.
      passed_still far far n a (lasting_frame s k.lasting j failed h c.port) (ap (λ (x : Group). x.count) same) st w b there (omega arith))
      (λ e w. clash (flag_of (group_at s).begun) o.begun (rw same at e))
      (λ e q. absurd (heard (rw same at q)))
      (λ e q. absurd (heard (rw same at q))))
    where
      n : ℕ
      n = (group_at s).count

      a : List (List ℕ)
      a = port_after s j failed h

      st : List ℕ
      st = store_after s j failed h payload store

      same : group_at (port_after s j failed h) ≡ group_at s
      same = after_group s j failed h

      there : Still run gathering joined far (group_at (port_after s j failed h)) (port_at (port_after s j failed h) i)
      there = rw (same, frame_other (group_at s).kind s j (taken_in s j failed h) h i (λ e. d (sym e))) o

      ports : ports_in (group_at s) ≡ (group_at s).count
      ports = ports_are (group_at s) k.lasting.group.sizes

      stops : eqb (frame_refusal s j (length payload) (length store)) 0 ≡ true → eqb (taken_in s j failed h).answer 11 ≡ false
          → silent (group_at s) (port_after s j failed h) (group_at s).count ≡ true → stops_with s j failed h payload store ≡ true
      stops e f q = rw (e, f, o.begun, ports, q) refl

  -- a report
  report_still : (far less : ℕ) (s : List (List ℕ)) → Kept s → i < (group_at s).count → (store out report : List ℕ) → Given s store out report → StillIn far s
      → far ≤ less + frames (group_at s).kind → StillIn less (fetch_of s store out report).rows
  unfolding fetch_of rows_if_due reported_of
  report_still far less s k b store out report v o l =
      let g : Group = group_at s in
      let n : ℕ = (group_at s).count in
      let ports : ports_in (group_at s) ≡ (group_at s).count = ports_are g k.lasting.group.sizes in
      let d : Due (group_at s) (group_at s).count s = due_says g n s (rw ports at v.due) in
      let p : List (List ℕ) = passed_of (group_at s) store (group_at s).count s in
      let long : rows_for (group_at s).count ≤ length p = rw (length_passed g store n s) (let r = k.lasting.rows in omega arith) in
      let passed : Still run gathering joined less (group_at p) (port_at p i) = passed_still far less n s k.lasting refl store d.brought b o l in
      rw (v.fitting, v.due, ports, told_group (group_at p) n p (omega arith), told_of_port (group_at p) n p i b long)
      (record {
        run_is = passed.run_is;
        gathering_is = passed.gathering_is;
        joined_is = passed.joined_is;
        begun = passed.begun;
        within = rw (ack_offset (group_at p) (ack_of (reply_ports (group_at p) p n) (size_of n) (group_at p).rs_ack) (port_at p i).step) passed.within;
      })

  fetch_still : (far : ℕ) (s : List (List ℕ)) → Kept s → i < (group_at s).count → (store out report : List ℕ) → StillIn far s → StillIn far (fetch_of s store out report).rows
  fetch_still far s k b store out report o =
      ⊎_elim
      (λ (e : (lent_fits s store out report && due_in (group_at s) (ports_in (group_at s)) s) ≡ true).
      report_still far far s k b store out report
      (record { fitting = and_left (lent_fits s store out report) (due_in (group_at s) (ports_in (group_at s)) s) e; due = and_right (lent_fits s store out report) (due_in (group_at s) (ports_in (group_at s)) s) e }) o (omega arith))
      (λ (e : (lent_fits s store out report && due_in (group_at s) (ports_in (group_at s)) s) ≡ false). rw (fetch_none s store out report e) o)
      (true_or_false (lent_fits s store out report && due_in (group_at s) (ports_in (group_at s)) s))

  run_still : (far : ℕ) (x : Receiver) (calls : List ReceiverCall) → Kept x.rows → i < (group_at x.rows).count → Others i calls → Unstopped x calls → StillIn far x.rows
      → StillIn far (receiver_run x calls).rows
  run_still far x [] k b a u o = o
  run_still far x (Frame j failed h payload ∷ calls) k b a u o =
      let y : Receiver = receiver_after x (Frame j failed h payload) in
      run_still far y calls (call_kept x (Frame j failed h payload) k) (rw (call_sizes x (Frame j failed h payload) k).count b) a.1 u.1
      (frame_still far x.rows k b j failed h payload x.store a.0 u.0 o)
  run_still far x (Fetch out report ∷ calls) k b a u o =
      let y : Receiver = receiver_after x (Fetch out report) in
      run_still far y calls (call_kept x (Fetch out report) k) (rw (call_sizes x (Fetch out report) k).count b) a u
      (fetch_still far x.rows k b x.store out report o)

  -- with a report among the calls
  reported_still : (far less : ℕ) (x : Receiver) (calls : List ReceiverCall) → Kept x.rows → i < (group_at x.rows).count → Others i calls → Unstopped x calls → StillIn far x.rows
      → far ≤ less + frames (group_at x.rows).kind → (reports_of x calls ≡ [] → ⊥) → StillIn less (receiver_run x calls).rows
  reported_still far less x [] k b a u o l some = absurd (some refl)
  reported_still far less x (Frame j failed h payload ∷ calls) k b a u o l some =
      let c : ReceiverCall = Frame j failed h payload in
      reported_still far less (receiver_after x (Frame j failed h payload)) calls (call_kept x c k) (rw (call_sizes x c k).count b) a.1 u.1
      (frame_still far x.rows k b j failed h payload x.store a.0 u.0 o) (rw (call_sizes x c k).kind l) some
  reported_still far less x (Fetch out report ∷ calls) k b a u o l some =
      go (gives x out report) refl
      (λ n. reported_still far less (receiver_after x (Fetch out report)) calls (call_kept x (Fetch out report) k) (rw (call_sizes x (Fetch out report) k).count b) a u
      (fetch_still far x.rows k b x.store out report o) (rw (call_sizes x (Fetch out report) k).kind l) n)
      some
    where
      y : Receiver
      y = receiver_after x (Fetch out report)

      go : (t : Bool) → gives x out report ≡ t → ((reports_of (receiver_after x (Fetch out report)) calls ≡ [] → ⊥) → StillIn less (receiver_run (receiver_after x (Fetch out report)) calls).rows)
          → (cond t (epoch_given x ∷ reports_of (receiver_after x (Fetch out report)) calls) (reports_of (receiver_after x (Fetch out report)) calls) ≡ [] → ⊥)
          → StillIn less (receiver_run (receiver_after x (Fetch out report)) calls).rows
      go true e rest some =
          let s : List (List ℕ) = x.rows in
          let v : Given x.rows x.store out report =
          record { fitting = and_left (lent_fits s x.store out report) (due_in (group_at s) (ports_in (group_at s)) s) e; due = and_right (lent_fits s x.store out report) (due_in (group_at s) (ports_in (group_at s)) s) e } in
          run_still less y calls (call_kept x (Fetch out report) k) (rw (call_sizes x (Fetch out report) k).count b) a u
          (report_still far less s k b x.store out report v o l)
      go false e rest some = rest some

-- The lent store keeps its length.

frame_length : (s : List (List ℕ)) (i : ℕ) (failed : Bool) (h : ℕ) (payload store : List ℕ) → length (frame_of s i failed h payload store).store ≡ length store
unfolding store_by
frame_length s i failed h payload store =
    let t : Taken = taken_in s i failed h in
    frame_cases s i failed h payload store (λ (o : FrameOutcome). length o.store ≡ length store) (λ e. refl) (λ e f. refl)
    (λ e f. cond_by (λ (l : List ℕ). length l ≡ length store) (is_kept t) _ _ (λ c. length_stored store (place_in (group_at s) i (kept_at t)) payload h) (λ c. refl))

pub run_length : (x : Receiver) (calls : List ReceiverCall) → length (receiver_run x calls).store ≡ length x.store
run_length x [] = refl
run_length x (Frame i failed h payload ∷ calls) =
    run_length (receiver_after x (Frame i failed h payload)) calls ∙ frame_length x.rows i failed h payload x.store
run_length x (Fetch out report ∷ calls) = run_length (receiver_after x (Fetch out report)) calls

kept_store : (s : List (List ℕ)) (i : ℕ) (failed : Bool) (h : ℕ) (payload store : List ℕ) (d : ℕ) (run : Run) → frame_refusal s i (length payload) (length store) ≡ 0
    → taken_in s i failed h ≡ keeps (group_at s) (step_at s i) run d
    → ((taken_in s i failed h).answer ≡ 0) × ((frame_of s i failed h payload store).store ≡ stored_at store (place_in (group_at s) i d) payload h)
unfolding frame_of taken_frame store_by keeps
kept_store s i failed h payload store d run e t =
    (rw t refl, rw (eq-eqb (frame_refusal s i (length payload) (length store)) 0 e, t) refl)

store_of : (g : Group) (n : ℕ) → store_for g n ≡ n * g.window * (g.payload + 1)
unfolding store_for
store_of g n = refl

-- a port with the same run and the same packet being gathered takes the same frame

abbrev stepped_by : ℕ → Run → Bool → ℕ → Bool
stepped_by kind run odd h = in_step_at kind (run_on kind run odd h).count

same_run : (g g' : Group) (q q' : Step) (odd odd' : Bool) (h : ℕ) → g'.kind ≡ g.kind → run_of q' ≡ run_of q → odd' ≡ odd → stepped g' q' odd' h ≡ stepped g q odd h
same_run g g' q q' odd odd' h k r o =
    ap (λ (kind : ℕ). stepped_by kind (run_of q') odd' h) k ∙ ap (λ (run : Run). stepped_by g.kind run odd' h) r ∙ ap (λ (b : Bool). stepped_by g.kind (run_of q) b h) o

-- whether it ends an odd packet, of a port
abbrev odd_of : List (List ℕ) → ℕ → ℕ → Bool
odd_of s i h = ends_odd (group_at s).kind (get_or (packets_at s i) 0 []) (port_at s i).step.next h

port_gathering : (s : List (List ℕ)) (i : ℕ) → (port_at s i).gathering ≡ get_or (packets_at s i) 0 []
unfolding port_at
port_gathering s i = refl

same_odd : (s r : List (List ℕ)) (i h : ℕ) → (group_at r).kind ≡ (group_at s).kind → (port_at r i).gathering ≡ (port_at s i).gathering → (port_at r i).step.next ≡ (port_at s i).step.next
    → odd_of r i h ≡ odd_of s i h
same_odd s r i h k row next =
    ap (λ (kind : ℕ). ends_odd kind (get_or (packets_at r i) 0 []) (port_at r i).step.next h) k
    ∙ ap (λ (l : List ℕ). ends_odd (group_at s).kind l (port_at r i).step.next h) (sym (port_gathering r i) ∙ row ∙ port_gathering s i)
    ∙ ap (λ (t : ℕ). ends_odd (group_at s).kind (get_or (packets_at s i) 0 []) t h) next

-- A frame answered 11 lies beyond the window. Calls that leave its port alone leave the port's run, its gathered packet and that it has joined (`reported_still`), and each report brings the window an epoch nearer: so behind one of them the same frame lies inside it, and is taken as `keeps` says.
pub again : (x : Receiver) → Kept x.rows → (i : ℕ) (failed : Bool) (h : ℕ) (payload : List ℕ) → (frame_of x.rows i failed h payload x.store).answer ≡ 11
    → (calls : List ReceiverCall) → Others i calls → Unstopped x calls → (reports_of x calls ≡ [] → ⊥) → Stored (receiver_run x calls) i failed h payload
again x k i failed h payload e calls others goes some =
    record {
      answer = taken_answer r i failed h payload y.store unrefused_now ∙ left.0;
      at = d;
      inside = inside;
      tag = tag_next (group_at r) (port_at r i).step.next (ky.lasting.ports i now).kept.run.tag;
      store_is = left.1;
      stands = rw left.1 (stands_put (group_at r) (group_at r).count i d payload h y.store (let l = inside in omega arith) now stored_now bytes_now);
    }
  where
    s : List (List ℕ)
    s = x.rows

    y : Receiver
    y = receiver_run x calls

    r : List (List ℕ)
    r = (receiver_run x calls).rows

    d : ℕ
    d = offset (group_at (receiver_run x calls).rows) (port_at (receiver_run x calls).rows i).step

    said : (frame_refusal x.rows i (length payload) (length x.store) ≡ 0) × ((taken_in x.rows i failed h).answer ≡ 11)
    said = answered_above x.rows i failed h payload x.store 11 (omega arith) e

    fit : Fitting (group_at x.rows) (ports_in (group_at x.rows)) i (length x.rows) (length payload) (length x.store)
    fit = unrefused (group_at s) (ports_in (group_at s)) i (length s) (length payload) (length x.store) said.0

    ports : ports_in (group_at x.rows) ≡ (group_at x.rows).count
    ports = ports_are (group_at s) k.lasting.group.sizes

    b : i < (group_at x.rows).count
    b = rw ports at fit.port

    f : Full (group_at x.rows) (port_at x.rows i).step failed (odd_of x.rows i h) h
    f = rw (port_step s i) (full (group_at s) (step_at s i) failed (odd_in s i h) h said.1)

    W : Windowed (group_at x.rows)
    W = windowed (group_at s) k.lasting.group

    ky : Kept (receiver_run x calls).rows
    ky = run_kept x calls k

    sizes : SameSizes (group_at (receiver_run x calls).rows) (group_at x.rows)
    sizes = run_sizes x calls k

    still : Still (run_of (port_at x.rows i).step) (port_at x.rows i).gathering (port_at x.rows i).step.joined ((group_at x.rows).window - frames (group_at x.rows).kind)
        (group_at (receiver_run x calls).rows) (port_at (receiver_run x calls).rows i)
    still =
        reported_still i (run_of (port_at s i).step) (port_at s i).gathering (port_at s i).step.joined f.joined (group_at s).window ((group_at s).window - frames (group_at s).kind) x calls k b others goes
        (record { run_is = refl; gathering_is = refl; joined_is = refl; begun = f.begun; within = ((k.lasting.ports i b).kept.goes f.joined).reach })
        (let least = W.least in omega arith) some

    inside : offset (group_at (receiver_run x calls).rows) (port_at (receiver_run x calls).rows i).step < (group_at (receiver_run x calls).rows).window
    inside = let w = still.within in let least = W.least in let more = frames_two (group_at s).kind in let q = sizes.window in omega arith

    taken : taken_in (receiver_run x calls).rows i failed h ≡ keeps (group_at r) (step_at r i) (ran_on (group_at r) (step_at r i) (odd_in r i h) h) d
    taken =
        rw (← port_step r i)
        (taken_keeps (group_at r) (port_at r i).step failed (odd_of r i h) h f.unflagged
        (same_run (group_at s) (group_at r) (port_at s i).step (port_at r i).step (odd_of s i h) (odd_of r i h) h sizes.kind still.run_is
        (same_odd s r i h sizes.kind still.gathering_is (ap (λ (run : Run). run.next) still.run_is)) ∙ f.on) still.begun (rw still.joined_is f.joined)
        (lt-ltb d (group_at r).window inside))

    now : i < (group_at (receiver_run x calls).rows).count
    now = rw sizes.count b

    bytes_now : length payload ≡ (group_at (receiver_run x calls).rows).payload
    bytes_now = fit.bytes ∙ sym sizes.payload

    stored_now : length (receiver_run x calls).store ≡ (group_at (receiver_run x calls).rows).count * (group_at (receiver_run x calls).rows).window * ((group_at (receiver_run x calls).rows).payload + 1)
    stored_now = run_length x calls ∙ fit.stored ∙ rw (ports, sizes.count, sizes.window, sizes.payload) (store_of (group_at x.rows) (group_at x.rows).count)

    unrefused_now : frame_refusal (receiver_run x calls).rows i (length payload) (length (receiver_run x calls).store) ≡ 0
    unrefused_now =
        rw (ports_are (group_at r) ky.lasting.group.sizes)
        (fitting_none (group_at r) (group_at r).count i (length r) (length payload) (length y.store)
        (record { port = now; whole = ky.lasting.rows; bytes = bytes_now; stored = stored_now ∙ sym (store_of (group_at r) (group_at r).count) }))

    left : ((taken_in (receiver_run x calls).rows i failed h).answer ≡ 0) × ((frame_of r i failed h payload (receiver_run x calls).store).store ≡ stored_at (receiver_run x calls).store (place_in (group_at r) i d) payload h)
    left = kept_store r i failed h payload y.store d (ran_on (group_at r) (step_at r i) (odd_in r i h) h) unrefused_now taken
