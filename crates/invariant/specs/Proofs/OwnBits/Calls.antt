-- The same of all ports, and of the packets that rule, through any calls.
use Rattle.std.specs.Prelude.{◌≡◌, ◌≢◌, Bool, cond, List, [], ◌∷◌, ℕ, ◌+◌, ◌≤◌, ◌<◌}
use Rattle.std.proofs.Math.Path.{refl}
use Rattle.std.proofs.Common.{sym, ap, subst, ◌∙◌, ⊎_elim, arith}
use Rattle.std.proofs.Math.Bool.{true, false}
use Rattle.std.proofs.Math.ListN.{get_or, length}
use Rattle.ground.specs.Truth.{eq_or_ne}
use Rattle.invariant.specs.Calls.{Fetch, Frame, Receiver, ReceiverCall, port_after, receiver_after, receiver_run, started_with, store_after}
use Rattle.invariant.specs.Claims.{tag_in}
use Rattle.invariant.specs.Kept.Group.{Kept, Lasting}
use Rattle.invariant.specs.Kept.Port.{Idle, Windowed}
use Rattle.invariant.specs.Proofs.Arriving.{Counts, after_group, frame_by_lem}
use Rattle.invariant.specs.Proofs.Calls.{call_kept}
use Rattle.invariant.specs.Proofs.Claims.{taken_inside}
use Rattle.invariant.specs.Proofs.Kept.Calls.{Due, due_says}
use Rattle.invariant.specs.Proofs.Kept.Start.{started_kept, started_with_lem}
use Rattle.invariant.specs.Proofs.Kept.Taken.{taken_whole}
use Rattle.invariant.specs.Proofs.Kept.WithinCall.{brought_owes_nothing, lasting_frame, windowed}
use Rattle.invariant.specs.Proofs.Laws.Flags.{never, off_flag}
use Rattle.invariant.specs.Proofs.Laws.Settling.{settled_by_lem}
use Rattle.invariant.specs.Proofs.OwnBits.Port.{Bits, ack_bits, none_bits, passed_bits, same_bits_lem, taken_bits}
use Rattle.invariant.specs.Proofs.Sizes.{call_sizes, run_sizes}
use Rattle.judge.specs.Seen.{size_of}
use Rattle.packet.specs.Kinds.{frames}
use Rattle.packet.specs.Laws.Epochs.{first_epoch}
use Rattle.packet.specs.Ruling.{fields_in}
use Rattle.packet.specs.Theorems.Tags.{before_first, frames_two}
use Rattle.phases.specs.Due.{brought}
use Rattle.phases.specs.Laws.Cleared.{begun_port, cleared_on, stopped_port}
use Rattle.phases.specs.Laws.Lengths.{length_passed, length_stopped}
use Rattle.phases.specs.Laws.Passed.{passed_group_lem, passed_of_port}
use Rattle.phases.specs.Passing.{passed_group, passed_of}
use Rattle.phases.specs.Settling.{settled_of, stopped_of}
use Rattle.phases.specs.Sizes.{ports_in, store_for}
use Rattle.receiver.specs.Fetch.{due_in, fetch_of}
use Rattle.receiver.specs.Frame.{frame_of, marks_by, odd_in, store_by, taken_in}
use Rattle.receiver.specs.Laws.Frames.{frame_other, frame_port, frame_on}
use Rattle.receiver.specs.Laws.Outcomes.{fetch_cases}
use Rattle.receiver.specs.Laws.Passed.{cleared_joined, cleared_whole, passed_kind, passed_oldest, passed_origin, passed_payload, passed_window, step_whole}
use Rattle.receiver.specs.Laws.Sizes.{ports_are}
use Rattle.receiver.specs.Laws.Told.{told_group, told_of_port, with_ack}
use Rattle.receiver.specs.Report.{reply_ports, reported_of, ruling_epoch, seen_of, states_worked_out, with_state}
use Rattle.receiver.specs.Starting.{group_with, start_as_answer, start_as_rows}
use Rattle.reply.specs.Telling.{ack_of}
use Rattle.rows.specs.declared.group.Group.{Group}
use Rattle.rows.specs.declared.step.Step.{Step}
use Rattle.rows.specs.Group.{group_at}
use Rattle.rows.specs.Laws.Port.{port_step}
use Rattle.rows.specs.Port.{Port, port_at}
use Rattle.rows.specs.Rows.{rows_for}
use Rattle.rows.specs.Step.{step_at}
use Rattle.step.specs.Arrival.{flag_of, taken_of, is_kept, kept_at}
use Rattle.step.specs.declared.arrival.Taken.{Taken}
use Rattle.step.specs.Laws.OwnBits.{own_packet}
use Rattle.step.specs.OwnCount.{without_mfi2}
use Rattle.store.specs.Frames.{byte_at, h4_at, packet_in, place_in, stored_at}
use Rattle.store.specs.Laws.Marks.{first_mark_lem, mark_none}
use Rattle.store.specs.Laws.Places.{place_moved, place_same}
use Rattle.store.specs.Laws.Stands.{stands_h4, stands_put, stored_elsewhere}
use Rattle.store.specs.Marks.{first_mark}

record Numbered (g : Group) (p : Port) (byte : ℕ → ℕ) : Type 0 where
  bits : Bits g p.step p.marks byte
  ruled : without_mfi2 g.kind ≡ true → flag_of p.step.whole ≡ true → (fields_in g.kind p.ruling).epoch ≡ ruling_epoch g

abbrev NumberedIn : List (List ℕ) → List ℕ → ℕ → Type 0
NumberedIn s store j = Numbered (group_at s) (port_at s j) (λ d. h4_at (group_at s) j d store)

-- nothing is claimed, and nothing rules
cleared_numbered : (g g₂ : Group) (beginning : Bool) (p : Port) (byte : ℕ → ℕ) → Numbered g (cleared_on g₂ beginning p) byte
cleared_numbered g g₂ beginning p byte =
    let q : Step = (cleared_on g₂ beginning p).step in
    record {
      bits = none_bits g q (cleared_on g₂ beginning p).marks byte (cleared_joined p.step _) mark_none;
      ruled = λ v w. never (sym (off_flag q.whole (cleared_whole p.step _)) ∙ w);
    }

idle_numbered : (s : List (List ℕ)) (store : List ℕ) (j : ℕ) → Kept s → j < (group_at s).count → flag_of (group_at s).begun ≡ false → NumberedIn s store j
idle_numbered s store j k b off =
    let i : Idle (port_at s j).step (port_at s j).marks = (k.lasting.ports j b).kept.idle off in
    record {
      bits = none_bits (group_at s) (port_at s j).step (port_at s j).marks (λ d. h4_at (group_at s) j d store) i.joined i.empty;
      ruled = λ v w. never (sym (off_flag (port_at s j).step.whole i.whole) ∙ w);
    }

-- an epoch passed: its packet comes to rule, if it is marked
module _ (n : ℕ) (s : List (List ℕ)) (k : Lasting s) (count : (group_at s).count ≡ n) (store : List ℕ) (begun : flag_of (group_at s).begun ≡ true) (due : brought (group_at s) s n ≡ true) (j : ℕ) (b : j < n) (was : NumberedIn s store j) where
  abbrev g : Group
  g = group_at s

  abbrev p : Port
  p = port_at s j

  some : 0 < g.window
  some = let least = (windowed g k.group).least in let more = frames_two g.kind in omega arith

  moved : (d : ℕ) → h4_at (passed_group g) j d store ≡ h4_at g j (d + frames g.kind) store
  unfolding h4_at
  moved d = rw (place_moved g (passed_group g) (frames g.kind) j d (passed_payload g) (passed_window g) (passed_origin g some), passed_payload g) refl

  now_rules : ruling_epoch (passed_group g) ≡ g.oldest
  unfolding ruling_epoch
  now_rules = rw (passed_kind g, passed_oldest g) (before_first g.kind g.oldest k.group.oldest)

  comes : without_mfi2 g.kind ≡ true → first_mark p.marks ≡ true → (fields_in g.kind (packet_in g j store)).epoch ≡ g.oldest
  unfolding packet_in tag_in
  comes v first =
      own_packet g.kind (λ d. h4_at g j d store) g.oldest v k.group.oldest
      (λ d l. was.bits.marked d (rw (first_epoch g.kind d l) (sym (first_mark_lem p.marks) ∙ first)))

  rules : (whole : Bool) → first_mark p.marks ≡ whole → without_mfi2 g.kind ≡ true → flag_of (cond whole 1 0) ≡ true → (fields_in g.kind (cond whole (packet_in g j store) p.ruling)).epoch ≡ ruling_epoch (passed_group g)
  rules true e v w = comes v e ∙ sym now_rules
  rules false e v w = never w

  passed_numbered : NumberedIn (passed_of (group_at s) store n s) store j
  unfolding passed_group
  passed_numbered =
      let enough : rows_for n ≤ length s = (let r = k.rows in let e = count in omega arith) in
      rw (passed_group_lem g store n s (let l = enough in omega arith), passed_of_port g store n s j b enough)
      (record {
        bits =
            passed_bits g p.step p.marks (k.ports j (let e = count in omega arith)).kept begun (brought_owes_nothing g s n due j b) (λ d. h4_at g j d store) (λ d. h4_at (passed_group g) j d store) moved
            was.bits;
        ruled = λ v w. rules (first_mark p.marks) refl v (rw (step_whole p.step (first_mark p.marks)) at w);
      })

-- states and RS-Ack worked out
told_numbered : (g : Group) (n : ℕ) (s : List (List ℕ)) → g ≡ group_at s → rows_for n ≤ length s → (store : List ℕ) (j : ℕ) → j < n → NumberedIn s store j → NumberedIn (states_worked_out g n s) store j
unfolding with_state ruling_epoch h4_at
told_numbered g n s same l store j b was =
    let ack : ℕ = ack_of (reply_ports g s n) (size_of n) g.rs_ack in
    let was : Numbered g (port_at s j) (λ d. h4_at g j d store) = rw same was in
    rw (told_group g n s (omega arith), told_of_port g n s j b l)
    (record {
      bits =
          ack_bits g ack (port_at s j).step (port_at s j).marks (λ d. h4_at g j d store) (λ d. h4_at (with_ack g ack) j d store)
          (λ d. ap (λ (q : ℕ). byte_at store (q + g.payload)) (place_same g (with_ack g ack) j d refl refl refl)) was.bits;
      ruled = was.ruled;
    })

-- a frame, before anything follows from it for all ports
module _ (s : List (List ℕ)) (k : Kept s) (i : ℕ) (failed : Bool) (h : ℕ) (payload store : List ℕ) (o : Counts s i failed h payload store) (j : ℕ) (b : j < (group_at s).count) (was : NumberedIn s store j) where
  abbrev group : Group
  group = group_at s

  abbrev t : Taken
  t = taken_in s i failed h

  abbrev a : List (List ℕ)
  a = port_after s i failed h

  abbrev st : List ℕ
  st = store_after s i failed h payload store

  W : Windowed group
  W = windowed group k.lasting.group

  same : group_at a ≡ group
  same = after_group s i failed h

  -- a frame of the window that is not the one put
  stays : (d : ℕ) → d < group.window → (is_kept t ≡ true → j ≡ i → d ≡ (kept_at t) → ⊥) → h4_at group j d st ≡ h4_at group j d store
  unfolding store_by h4_at byte_at
  stays d l apart = go (is_kept t) refl
    where
      go : (q : Bool) → is_kept (taken_in s i failed h) ≡ q
          → get_or (cond q (stored_at store (place_in (group_at s) i (kept_at (taken_in s i failed h))) payload h) store) (place_in (group_at s) j d + (group_at s).payload) 0 ≡ get_or store (place_in (group_at s) j d + (group_at s).payload) 0
      go true e = stored_elsewhere group j i d (kept_at t) payload h store l (taken_inside group (step_at s i) failed (odd_in s i h) h e) (apart e) o.bytes group.payload (omega arith)
      go false e = refl

  put : is_kept t ≡ true → h4_at group i (kept_at t) st ≡ h
  unfolding store_by store_for
  put e =
      let some : 0 < group.window = (let least = W.least in let more = frames_two group.kind in omega arith) in
      rw e (stands_h4 group i (kept_at t) payload h (stored_at store (place_in group i (kept_at t)) payload h) (stands_put group group.count i (kept_at t) payload h store some o.port o.stored o.bytes))

  mine_stay : j ≡ i → (d : ℕ) → d < group.window → (is_kept t ≡ true → d ≢ (kept_at t)) → h4_at group i d st ≡ h4_at group i d store
  mine_stay z d l apart = subst (λ (m : ℕ). h4_at group m d st ≡ h4_at group m d store) z (stays d l (λ e y. apart e))

  own : j ≡ i → Numbered group (frame_on group.kind (port_at s i) t h) (λ d. h4_at group i d st)
  own z =
      let mine : NumberedIn s store i = rw z at was in
      let is : taken_in s i failed h ≡ taken_of (group_at s) (port_at s i).step failed (odd_in s i h) h = ap (λ (q : Step). taken_of group q failed (odd_in s i h) h) (sym (port_step s i)) in
      record {
        bits =
            subst (λ (q : Taken). Bits group q.step (marks_by group.kind (port_at s i).marks q) (λ d. h4_at group i d st)) (sym is)
            (taken_bits group (port_at s i).step (port_at s i).marks failed (odd_in s i h) h W (k.lasting.ports i o.port).kept (λ d. h4_at group i d store) mine.bits (λ d. h4_at group i d st)
            (subst (λ (q : Taken). is_kept q ≡ true → h4_at group i (kept_at q) st ≡ h) is put)
            (subst (λ (q : Taken). (d : ℕ) → d < group.window → (is_kept q ≡ true → d ≢ (kept_at q)) → h4_at group i d st ≡ h4_at group i d store) is (mine_stay z)));
        ruled = λ v w. mine.ruled v (rw (taken_whole group (step_at s i) failed (odd_in s i h) h ∙ ap (λ (q : Step). q.whole) (sym (port_step s i))) at w);
      }

  other : j ≢ i → Numbered group (port_at s j) (λ d. h4_at group j d st)
  other z =
      record {
        bits = same_bits_lem group (port_at s j).step (port_at s j).marks (k.lasting.ports j b).kept (λ d. h4_at group j d store) (λ d. h4_at group j d st) (λ d l. stays d l (λ e y. absurd (z y))) was.bits;
        ruled = was.ruled;
      }

  after : NumberedIn a st j
  after =
      ⊎_elim
      (λ (z : j ≡ i). rw (same, z, frame_port group.kind s i t h group.count o.port (let r = k.lasting.rows in omega arith)) (own z))
      (λ (z : j ≢ i). rw (same, frame_other group.kind s i t h j z) (other z))
      (eq_or_ne j i)

  -- and what follows from it
  settled_numbered : NumberedIn (settled_of (group_at s).count st a) st j
  settled_numbered =
      let n : ℕ = group.count in
      settled_by_lem (λ (r : List (List ℕ)). NumberedIn r st j) (group_at s).count st a o.long
      after
      (λ on q f w. passed_numbered (group_at s).count a (lasting_frame s k.lasting i failed h o.port) (ap (λ (x : Group). x.count) same) st on w j b after)
      (λ off w. rw (begun_port (group_at a) n a j b o.long) (cleared_numbered _ (group_at a) true (port_at a j) _))
      (λ on q. rw (stopped_port (group_at a) n a j b o.long) (cleared_numbered _ (group_at a) false (port_at a j) _))
      (λ on q.
      let z : List (List ℕ) = stopped_of (group_at a) n a in
      rw (begun_port (group_at z) n z j b (rw (length_stopped (group_at a) n a) o.long)) (cleared_numbered _ (group_at z) true (port_at z j) _))

frame_numbered : (s : List (List ℕ)) → Kept s → (i : ℕ) (failed : Bool) (h : ℕ) (payload store : List ℕ) (j : ℕ) → j < (group_at s).count → NumberedIn s store j
    → NumberedIn (frame_of s i failed h payload store).rows (frame_of s i failed h payload store).store j
frame_numbered s k i failed h payload store j b was =
    frame_by_lem (λ (r : List (List ℕ)) (m : List ℕ). NumberedIn r m j) s k i failed h payload store was (λ o. settled_numbered s k i failed h payload store o j b was)

fetch_numbered : (s : List (List ℕ)) → Kept s → (store out report : List ℕ) (j : ℕ) → j < (group_at s).count → NumberedIn s store j → NumberedIn (fetch_of s store out report).rows store j
unfolding reported_of
fetch_numbered s k store out report j b was =
    fetch_cases s store out report (λ r. NumberedIn r store j) was (λ e d. rw ports (reported (rw ports at d)))
  where
    n : ℕ
    n = (group_at s).count

    ports : ports_in (group_at s) ≡ (group_at s).count
    ports = ports_are (group_at s) k.lasting.group.sizes

    reported : due_in (group_at s) (group_at s).count s ≡ true → NumberedIn (reported_of (group_at s) store (group_at s).count s) store j
    reported d =
        let q : Due (group_at s) (group_at s).count s = due_says (group_at s) (group_at s).count s d in
        let p : List (List ℕ) = passed_of (group_at s) store (group_at s).count s in
        let l : rows_for (group_at s).count ≤ length p = rw (length_passed (group_at s) store (group_at s).count s) (let r = k.lasting.rows in omega arith) in
        told_numbered (group_at p) (group_at s).count p refl l store j b (passed_numbered (group_at s).count s k.lasting refl store q.begun q.brought j b was)

abbrev NumberedOf : Receiver → ℕ → Type 0
NumberedOf x j = NumberedIn x.rows x.store j

call_numbered : (x : Receiver) (c : ReceiverCall) → Kept x.rows → (j : ℕ) → j < (group_at x.rows).count → NumberedOf x j → NumberedOf (receiver_after x c) j
call_numbered x (Frame i failed h payload) k j b was = frame_numbered x.rows k i failed h payload x.store j b was
call_numbered x (Fetch out report) k j b was = fetch_numbered x.rows k x.store out report j b was

run_numbered : (x : Receiver) (calls : List ReceiverCall) → Kept x.rows → (j : ℕ) → j < (group_at x.rows).count → NumberedOf x j → NumberedOf (receiver_run x calls) j
run_numbered x [] k j b was = was
run_numbered x (c ∷ calls) k j b was = run_numbered (receiver_after x c) calls (call_kept x c k) j (rw (call_sizes x c k).count b) (call_numbered x c k j b was)

-- after a start that is answered 0 and any calls
pub own_count : (kind count P W : ℕ) (hold restore : List ℕ) (rows : List (List ℕ)) (store : List ℕ) → start_as_answer kind count P W (length store) hold restore (length rows) ≡ 0 → (calls : List ReceiverCall) (j : ℕ) → j < count
    → (let s = (receiver_run (started_with kind count P W hold restore rows store) calls).rows in
    without_mfi2 kind ≡ true → (seen_of (group_at s) s j).whole ≡ true → (fields_in kind (port_at s j).ruling).epoch ≡ ruling_epoch (group_at s))
unfolding seen_of port_at
own_count kind count P W hold restore rows store e calls j b v w =
    let x : Receiver = started_with kind count P W hold restore rows store in
    let k : Kept x.rows = started_kept kind count P W (length store) hold restore rows e in
    let group : group_at (start_as_rows kind count P W (length store) hold restore rows) ≡ group_with kind count P W = started_with_lem kind count P W (length store) hold restore rows e in
    let here : j < (group_at x.rows).count = rw group b in
    let is : (group_at (receiver_run x calls).rows).kind ≡ kind = (run_sizes x calls k).kind ∙ ap (λ (g : Group). g.kind) group in
    let now : NumberedOf (receiver_run x calls) j = run_numbered x calls k j here (idle_numbered x.rows x.store j k here (rw group refl)) in
    ap (λ (m : ℕ). (fields_in m (port_at (receiver_run x calls).rows j).ruling).epoch) (sym is) ∙ now.ruled (rw is v) w
