-- The packet being gathered and the run of a port after any calls, of the frames heard.
use Rattle.std.specs.Prelude.{◌≡◌, refl, ◌≢◌, Bool, true, false, cond, ◌&&◌, eqb, ltb, get_or}
use Rattle.std.proofs.Common.{sym, ap, subst, ◌∙◌, ⊎_elim, arith, eq-eqb, ne_eqb}
use mathlib.Core.List.{List, [], ◌∷◌}
use Prim.Native.Nat.{ℕ, ◌≤◌, ◌<◌}
use Rattle.std.proofs.Math.ListN.{length}
use Rattle.ground.specs.Truth.{cond_by, eq_or_ne}
use Rattle.invariant.specs.Calls.{Fetch, Frame, Receiver, ReceiverCall, port_after, receiver_after, receiver_run, started_with, store_after}
use Rattle.invariant.specs.Kept.Group.{Kept}
use Rattle.invariant.specs.Kept.Run.{RunKept}
use Rattle.invariant.specs.Live.{Live, LiveRow, heard_of, heard_with, is_heard}
use Rattle.invariant.specs.Proofs.Calls.{call_kept}
use Rattle.invariant.specs.Proofs.Kept.Start.{started_kept, started_with_lem}
use Rattle.invariant.specs.Proofs.Laws.Settling.{settled_by_lem}
use Rattle.invariant.specs.Proofs.Laws.Started.{accepted}
use Rattle.invariant.specs.Proofs.Live.Losing.{HeardBy, heard_short, heard_went}
use Rattle.invariant.specs.Proofs.Live.Rows.{live_none, packet_came, packet_judged}
use Rattle.invariant.specs.Proofs.Live.Runs.{Went, live_went, row_after, went}
use Rattle.invariant.specs.Proofs.Sizes.{call_sizes, run_sizes}
use Rattle.invariant.specs.Words.{Unflagged}
use Rattle.phases.specs.Laws.Cleared.{begun_port, cleared_on, stopped_port}
use Rattle.phases.specs.Laws.Lengths.{length_passed, length_stopped}
use Rattle.phases.specs.Laws.Passed.{passed_of_port, passed_on}
use Rattle.phases.specs.Passing.{passed_of, passed_step}
use Rattle.phases.specs.Settling.{cleared_step, settled_of, stopped_of}
use Rattle.phases.specs.Sizes.{ports_in}
use Rattle.receiver.specs.Fetch.{fetch_of}
use Rattle.receiver.specs.Frame.{FrameOutcome, frame_of, frame_refusal, odd_in, refusal_by, settled_by, taken_in}
use Rattle.receiver.specs.Lengths.{frame_fits}
use Rattle.receiver.specs.Laws.Answers.{unrefused}
use Rattle.receiver.specs.Laws.Frames.{frame_gathering, frame_other, frame_port, length_frame}
use Rattle.receiver.specs.Laws.Fresh.{started_port}
use Rattle.receiver.specs.Laws.Outcomes.{fetch_cases, frame_cases}
use Rattle.receiver.specs.Laws.Sizes.{ports_are}
use Rattle.receiver.specs.Laws.Told.{told_of_port}
use Rattle.receiver.specs.Report.{reported_of}
use Rattle.receiver.specs.Starting.{group_with, start_as_answer, start_as_rows, zero_row}
use Rattle.rows.specs.declared.group.Group.{Group}
use Rattle.rows.specs.Group.{group_at}
use Rattle.rows.specs.Laws.Port.{port_step}
use Rattle.rows.specs.Packets.{packets_at}
use Rattle.rows.specs.Port.{Port, port_at}
use Rattle.rows.specs.Rows.{rows_for}
use Rattle.rows.specs.Step.{step_at}
use Rattle.step.specs.Arrival.{run_of}
use Rattle.step.specs.Theorems.Heard.{in_step_exactly, odd_alike}
use Rattle.step.specs.Words.{InStepExactly, run_over}
use Rattle.step.specs.declared.arrival.Taken.{Taken}
use Rattle.step.specs.declared.run.Run.{Run}
use Rattle.step.specs.Laws.Arrival.{ran_on}
use Rattle.step.specs.OwnCount.{without_mfi2}
use Rattle.step.specs.Run.{no_run, run_on, with_bits}

-- What holds of a port's run and of the packet being gathered, of the frames heard. `None` says that none of them is flagged: the run of a port without MFI2 is then theirs.
pub record LiveIn (None : Type 0) (kind : ℕ) (run : Run) (row heard : List ℕ) : Type 0 where
  pub live : LiveRow kind run.count run.next row heard
  pub said : without_mfi2 kind ≡ false → HeardBy kind run heard
  pub ran : without_mfi2 kind ≡ true → None → run ≡ run_over kind heard

abbrev LivePort : (None : Type 0) (kind : ℕ) (p : Port) (heard : List ℕ) → Type 0
LivePort None kind p heard = LiveIn None kind (run_of p.step) p.gathering heard

-- What follows for all ports, and a report, leave both.
abbrev under_way : (p : Port) → Run × List ℕ
under_way p = (run_of p.step, p.gathering)

live_same : (None : Type 0) (kind : ℕ) (p q : Port) (heard : List ℕ) → under_way q ≡ under_way p → LivePort None kind p heard → LivePort None kind q heard
live_same None kind p q heard e o = subst (λ (u : Run × List ℕ). LiveIn None kind u.0 u.1 heard) (sym e) o

passed_same : (g : Group) (store : List ℕ) (i : ℕ) (p : Port) → under_way (passed_on g store i p) ≡ under_way p
unfolding passed_step
passed_same g store i p = refl

cleared_same : (g : Group) (beginning : Bool) (p : Port) → under_way (cleared_on g beginning p) ≡ under_way p
unfolding cleared_step
cleared_same g beginning p = refl

module _ (n : ℕ) (store : List ℕ) (a : List (List ℕ)) (j : ℕ) (c : j < n) (long : rows_for n ≤ length a) where
  settled_same : under_way (port_at (settled_of n store a) j) ≡ under_way (port_at a j)
  settled_same =
      settled_by_lem (λ (r : List (List ℕ)). under_way (port_at r j) ≡ under_way (port_at a j)) n store a long
      refl
      (λ b q f w. rw (passed_of_port (group_at a) store n a j c long) (passed_same (group_at a) store j (port_at a j)))
      (λ b w. rw (begun_port (group_at a) n a j c long) (cleared_same (group_at a) true (port_at a j)))
      (λ b q. rw (stopped_port (group_at a) n a j c long) (cleared_same (group_at a) false (port_at a j)))
      (λ b q.
      let z : List (List ℕ) = stopped_of (group_at a) n a in
      let l : rows_for n ≤ length z = rw (length_stopped (group_at a) n a) long in
      rw (begun_port (group_at z) n z j c l)
      (cleared_same (group_at z) true (port_at z j) ∙ rw (stopped_port (group_at a) n a j c long) (cleared_same (group_at a) false (port_at a j))))

  reported_same : under_way (port_at (reported_of (group_at a) store n a) j) ≡ under_way (port_at a j)
  unfolding reported_of
  reported_same =
      let p : List (List ℕ) = passed_of (group_at a) store n a in
      let l : rows_for n ≤ length p = rw (length_passed (group_at a) store n a) long in
      rw (told_of_port (group_at p) n p j c l, passed_of_port (group_at a) store n a j c long) (passed_same (group_at a) store j (port_at a j))

unheard : (b c : Bool) → c ≡ false → (b && c) ≡ false
unheard true c e = e
unheard false c e = refl

-- 1 and 9 are no frames to the step record
pub refusal_unheard : (g : Group) (n i rows payload store : ℕ) → eqb (refusal_by g n i rows payload store) 0 ≡ false → is_heard (refusal_by g n i rows payload store) ≡ false
unfolding refusal_by
refusal_unheard g n i rows payload store e = go (ltb i n) (frame_fits g n rows payload store) e
  where
    go : (a b : Bool) → eqb (cond a (cond b 0 9) 1) 0 ≡ false → is_heard (cond a (cond b 0 9) 1) ≡ false
    go true true z = z
    go true false z = refl
    go false b z = refl

module _ (None : Type 0) (s : List (List ℕ)) (k : Kept s) (i : ℕ) (failed : Bool) (h : ℕ) (payload store : List ℕ) (j : ℕ) (c : j < (group_at s).count) (none : None → i ≡ j → failed ≡ false) (heard : List ℕ)
    (live : LivePort None (group_at s).kind (port_at s j) heard) where
  abbrev kind : ℕ
  kind = (group_at s).kind

  abbrev n : ℕ
  n = (group_at s).count

  abbrev t : Taken
  t = taken_in s i failed h

  abbrev a : List (List ℕ)
  a = port_after s i failed h

  -- with what is heard by the answer
  abbrev Now : List (List ℕ) → ℕ → Type 0
  Now r answer = LivePort None kind (port_at r j) (cond (eqb i j && is_heard answer) (h ∷ heard) heard)

  stays : (answer : ℕ) → is_heard answer ≡ false → Now s answer
  stays answer e = rw (unheard (eqb i j) (is_heard answer) e) live

  enough : rows_for n ≤ length s
  enough = let r = k.lasting.rows in omega arith

  mine : j ≡ i → LiveIn None kind (run_of (step_at s i)) (get_or (packets_at s i) 0 []) heard
  unfolding port_at
  mine e = rw e at live

  gathered : i < n → (port_at a i).gathering ≡ row_after kind (get_or (packets_at s i) 0 []) t h
  unfolding port_at
  gathered b = frame_gathering kind s i t h n b enough

  -- the port's own frame
  own : j ≡ i → i < n → Went (group_at s) (step_at s i) failed (odd_in s i h) h t → LivePort None kind (port_at a i) (h ∷ heard)
  own e b w =
      let o : LiveIn None kind (run_of (step_at s i)) (get_or (packets_at s i) 0 []) heard = mine e in
      let kept : RunKept kind (run_of (step_at s i)) = rw (port_step s i) at (k.lasting.ports i b).kept.run in
      let step : (port_at a i).step ≡ t.step = ap (λ (p : Port). p.step) (frame_port kind s i t h n b enough) in
      rw (step, gathered b)
      (record {
        live = live_went (group_at s) (step_at s i) (get_or (packets_at s i) 0 []) heard failed (odd_in s i h) h t kept w o.live;
        said = λ clock. heard_went (group_at s) (step_at s i) (get_or (packets_at s i) 0 []) heard failed h t clock kept w o.live (o.said clock);
        ran = λ free u.
            w.run
            ∙ ap (λ (f : Bool). cond f (with_bits (step_at s i).bits no_run) (ran_on (group_at s) (step_at s i) (odd_in s i h) h)) (none u (sym e))
            ∙ odd_alike kind free (run_of (step_at s i)) (odd_in s i h) h
            ∙ ap (λ (r : Run). run_on kind r false h) (o.ran free u);
      })

  after : i < n → (t.answer ≡ 11 → ⊥) → Now a t.answer
  after b other =
      let w : Went (group_at s) (step_at s i) failed (odd_in s i h) h t = went (group_at s) (step_at s i) failed (odd_in s i h) h other in
      ⊎_elim (λ (e : j ≡ i). rw (e, eq-eqb i i refl, w.heard) (own e b w))
      (λ (d : j ≢ i). rw (ne_eqb i j (λ (e : i ≡ j). d (sym e)), frame_other kind s i t h j d) live)
      (eq_or_ne j i)

  said : frame_refusal s i (length payload) (length store) ≡ 0 → t.answer ≢ 11
      → Now (settled_by t.settles (ports_in (group_at s)) (store_after s i failed h payload store) a) t.answer
  unfolding settled_by
  said e f =
      let ports : ports_in (group_at s) ≡ n = ports_are (group_at s) k.lasting.group.sizes in
      let o = unrefused (group_at s) (ports_in (group_at s)) i (length s) (length payload) (length store) e in
      let b : i < n = rw ports at o.port in
      let now : Now a t.answer = after b f in
      let long : rows_for n ≤ length a = rw (length_frame kind s i t h) enough in
      let st : List ℕ = store_after s i failed h payload store in
      rw ports
      (cond_by (λ (r : List (List ℕ)). Now r t.answer) t.settles (settled_of n st a) a
      (λ q. live_same None kind (port_at a j) (port_at (settled_of n st a) j) (cond (eqb i j && is_heard t.answer) (h ∷ heard) heard) (settled_same n st a j c long) now)
      (λ q. now))

  frame_live : Now (frame_of s i failed h payload store).rows (frame_of s i failed h payload store).answer
  frame_live =
      frame_cases s i failed h payload store (λ (o : FrameOutcome). Now o.rows o.answer)
      (λ e.
      stays (frame_refusal s i (length payload) (length store)) (refusal_unheard (group_at s) (ports_in (group_at s)) i (length s) (length payload) (length store) e))
      (λ e f. stays t.answer (rw f refl)) said

fetch_live : (None : Type 0) (s : List (List ℕ)) → Kept s → (store out report : List ℕ) (j : ℕ) → j < (group_at s).count → (heard : List ℕ) → LivePort None (group_at s).kind (port_at s j) heard
    → LivePort None (group_at s).kind (port_at (fetch_of s store out report).rows j) heard
fetch_live None s k store out report j c heard live =
    fetch_cases s store out report (λ r. LivePort None (group_at s).kind (port_at r j) heard) live (λ e d. rw ports reported)
  where
    ports : ports_in (group_at s) ≡ (group_at s).count
    ports = ports_are (group_at s) k.lasting.group.sizes

    reported : LivePort None (group_at s).kind (port_at (reported_of (group_at s) store (group_at s).count s) j) heard
    reported =
        live_same None (group_at s).kind (port_at s j) (port_at (reported_of (group_at s) store (group_at s).count s) j) heard
        (reported_same (group_at s).count store s j c (let r = k.lasting.rows in omega arith)) live

abbrev LiveOf : (None : Type 0) (x : Receiver) (j : ℕ) (heard : List ℕ) → Type 0
LiveOf None x j heard = LivePort None (group_at x.rows).kind (port_at x.rows j) heard

call_live : (None : Type 0) (x : Receiver) (c : ReceiverCall) → Kept x.rows → (j : ℕ) → j < (group_at x.rows).count → (None → Unflagged j (c ∷ [])) → (heard : List ℕ) → LiveOf None x j heard
    → LiveOf None (receiver_after x c) j (heard_with j x c heard)
call_live None x (Frame i failed h payload) k j b none heard o =
    rw (call_sizes x (Frame i failed h payload) k).kind (frame_live None x.rows k i failed h payload x.store j b (λ u. (none u).0) heard o)
call_live None x (Fetch out report) k j b none heard o =
    rw (call_sizes x (Fetch out report) k).kind (fetch_live None x.rows k x.store out report j b heard o)

first_and_rest : (j : ℕ) (c : ReceiverCall) (calls : List ReceiverCall) → Unflagged j (c ∷ calls) → Unflagged j (c ∷ []) × Unflagged j calls
first_and_rest j (Frame i failed h payload) calls u = ((u.0, tt), u.1)
first_and_rest j (Fetch out report) calls u = (tt, u)

run_live : (None : Type 0) (x : Receiver) (calls : List ReceiverCall) → Kept x.rows → (j : ℕ) → j < (group_at x.rows).count → (None → Unflagged j calls) → (heard : List ℕ) → LiveOf None x j heard
    → LiveOf None (receiver_run x calls) j (heard_of j x calls heard)
run_live None x [] k j b none heard o = o
run_live None x (c ∷ calls) k j b none heard o =
    run_live None (receiver_after x c) calls (call_kept x c k) j (rw (call_sizes x c k).count b) (λ u. (first_and_rest j c calls (none u)).1) (heard_with j x c heard)
    (call_live None x c k j b (λ u. (first_and_rest j c calls (none u)).0) heard o)

module _ (kind count P W : ℕ) (hold restore : List ℕ) (rows : List (List ℕ)) (store : List ℕ) (e : start_as_answer kind count P W (length store) hold restore (length rows) ≡ 0) (calls : List ReceiverCall) (j : ℕ) (b : j < count) where
  abbrev x : Receiver
  x = started_with kind count P W hold restore rows store

  abbrev port : Port
  port = port_at (receiver_run x calls).rows j

  group : group_at (start_as_rows kind count P W (length store) hold restore rows) ≡ group_with kind count P W
  group = started_with_lem kind count P W (length store) hold restore rows e

  fresh : LivePort (Unflagged j calls) kind (port_at (start_as_rows kind count P W (length store) hold restore rows) j) []
  fresh =
      let o = accepted kind count P W (length store) hold restore rows e in
      rw (o.fresh, started_port kind count hold restore rows (group_with kind count P W) j b (let r = o.rows in omega arith))
      (record { live = live_none kind 0 0 zero_row [] refl refl; said = λ clock. heard_short kind 0 0 0 0 [] (omega arith); ran = λ free u. refl })

  pub stands : LivePort (Unflagged j calls) kind port (heard_of j x calls [])
  stands =
      let k : Kept x.rows = started_kept kind count P W (length store) hold restore rows e in
      let same : (group_at (receiver_run x calls).rows).kind ≡ kind = (run_sizes x calls k).kind ∙ ap (λ (g : Group). g.kind) group in
      rw same at (run_live (Unflagged j calls) x calls k j (rw group b) (λ u. u) [] (rw group fresh))

  pub live_row : Live kind port (heard_of j x calls [])
  live_row =
      record {
        row = stands.live;
        came = packet_came kind port.step.count port.step.next port.gathering (heard_of j x calls []) stands.live;
        judged = packet_judged kind port.step.count port.step.next port.gathering (heard_of j x calls []) stands.live;
      }

  -- of a port none of whose frames is flagged, the run is that of the frames heard
  pub step_words : without_mfi2 kind ≡ true → Unflagged j calls → InStepExactly kind (heard_of j x calls []) port.step.count
  step_words free none = rw (ap (λ (r : Run). r.count) (stands.ran free none)) (in_step_exactly kind free (heard_of j x calls []))
