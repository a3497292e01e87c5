-- What stands in the store where a port claims a frame: it is the frame that was handed with that tag. As a relation between two calls: after a call a frame is claimed only if it was claimed before, or is the one just handed.
-- The idea: each thing that a call does is looked at by itself (an epoch passed, a stop, a beginning, a frame stored). Only storing a frame puts bytes, and a place in the store belongs to one port and one tag of the window, so what stood elsewhere stands as it did. After a stop or a beginning nothing is claimed.
use Rattle.std.specs.Prelude.{◌≡◌, ◌⊎◌, ◌≢◌, Bool, cond, get_or, replicate}
use Rattle.std.proofs.Math.Path.{refl, sym}
use Rattle.std.proofs.Common.{ap, ◌∙◌, inl, inr, ⊎_elim, arith}
use Rattle.std.proofs.Math.Bool.{true, false}
use Rattle.std.proofs.lemmas.Bool.{false≢true}
use mathlib.Core.List.{List, [], ◌∷◌}
use Prim.Native.Nat.{ℕ, ◌+◌, ◌/◌, ◌%◌, ◌≤◌, ◌<◌}
use Rattle.std.proofs.Math.ListN.{length}
use Rattle.invariant.specs.Kept.Group.{Kept, Lasting}
use Rattle.invariant.specs.Kept.Port.{PortKept, Windowed}
use Rattle.invariant.specs.Proofs.Arriving.{Counts, after_group, frame_by_lem}
use Rattle.invariant.specs.Proofs.Calls.{call_kept}
use Rattle.invariant.specs.Proofs.Claims.{New, Old, claims_inside, passed_claims, taken_claims, taken_inside}
use Rattle.invariant.specs.Proofs.Kept.Calls.{Due, due_says}
use Rattle.invariant.specs.Proofs.Kept.Start.{started_kept, started_with_lem}
use Rattle.invariant.specs.Proofs.Kept.WithinCall.{brought_owes_nothing, lasting_frame, windowed}
use Rattle.invariant.specs.Proofs.Laws.Settling.{settled_by_lem}
use Rattle.invariant.specs.Proofs.Laws.Window.{tag_next, tag_passed}
use Rattle.invariant.specs.Proofs.Sizes.{call_sizes}
use Rattle.ground.specs.Table.{get_or_tabulate, tabulate}
use Rattle.ground.specs.Truth.{eq_or_ne}
use Rattle.judge.specs.Seen.{size_of}
use Rattle.packet.specs.Kinds.{frames}
use Rattle.packet.specs.Laws.Epochs.{first_epoch}
use Rattle.packet.specs.Theorems.Tags.{frames_two}
use Rattle.phases.specs.Due.{brought}
use Rattle.phases.specs.Laws.Cleared.{begun_port, cleared_on, stopped_group}
use Rattle.phases.specs.Laws.Lengths.{length_passed, length_stopped}
use Rattle.phases.specs.Laws.Passed.{passed_group_lem, passed_of_port, passed_on}
use Rattle.phases.specs.Passing.{passed_group, passed_of, passed_step}
use Rattle.phases.specs.Settling.{begun_of, cleared_step, settled_of, stopped_of}
use Rattle.phases.specs.Sizes.{ports_in, store_for}
use Rattle.receiver.specs.Fetch.{fetch_of}
use Rattle.receiver.specs.Frame.{frame_of, marks_by, odd_in, store_by, taken_in}
use Rattle.receiver.specs.Laws.Frames.{frame_other, frame_port, frame_on}
use Rattle.receiver.specs.Laws.Outcomes.{fetch_cases, taken_answer}
use Rattle.receiver.specs.Laws.Passed.{cleared_joined, passed_kind, passed_oldest, passed_origin, passed_payload, passed_window}
use Rattle.receiver.specs.Laws.Sizes.{ports_are}
use Rattle.receiver.specs.Laws.Told.{states_in, told_group, told_of_port, told_on, with_ack}
use Rattle.receiver.specs.Report.{reply_ports, reported_of, with_state, states_worked_out}
use Rattle.receiver.specs.Starting.{group_with, start_as_answer, start_as_rows}
use Rattle.reply.specs.Telling.{ack_of}
use Rattle.reply.specs.Waiting.{no_standing}
use Rattle.rows.specs.declared.group.Group.{Group}
use Rattle.rows.specs.declared.step.Step.{Step}
use Rattle.rows.specs.Group.{group_at}
use Rattle.rows.specs.Laws.Port.{port_step}
use Rattle.rows.specs.Port.{port_at}
use Rattle.rows.specs.Rows.{rows_for}
use Rattle.rows.specs.Step.{step_at}
use Rattle.step.specs.Arrival.{distance_in, flag_of, in_step, taken_of, is_kept, kept_at}
use Rattle.step.specs.declared.arrival.Taken.{Taken}
use Rattle.store.specs.Frames.{Stands, byte_at, h4_at, place_in, stored_at}
use Rattle.store.specs.Laws.Marks.{first_mark_lem, mark_none}
use Rattle.store.specs.Laws.Places.{place_moved}
use Rattle.store.specs.Laws.Stands.{stands_put, stands_same, stored_elsewhere}
use Rattle.store.specs.Marks.{first_mark, mark_in, passed_marks}
use Rattle.invariant.specs.Calls.{Fetch, Frame, Receiver, ReceiverCall, port_after, receiver_after, receiver_run, started_with, store_after}
use Rattle.invariant.specs.Claims.{Claimed, ClaimedOn, Claims, Handed, HandedBy, HandedLast, Part, tag_in}

-- The same content in two states: what is claimed in the second was claimed in the first.

ack_tag : (g : Group) (ack d : ℕ) → tag_in (with_ack g ack) d ≡ tag_in g d
unfolding tag_in
ack_tag g ack d = refl

ack_claims : (g : Group) (ack : ℕ) (s : Step) (marks : List ℕ) (d : ℕ) → Claims (with_ack g ack) s marks d → Claims g s marks d
unfolding distance_in
ack_claims g ack s marks d c =
    record {
      begun = c.begun;
      has =
          ⊎_elim (λ (m : mark_in marks (d / frames g.kind) ≡ true). inl m)
          (λ (p : Part (with_ack g ack) s d). inr (record { joined = p.joined; joined_at = p.joined_at; from = p.from; upto = p.upto })) c.has;
    }

module _ (tag : ℕ) (bytes : List ℕ) (h4 : ℕ) where
  stands_back : (g g' : Group) (L i d : ℕ) (s : List ℕ) → g'.payload ≡ g.payload → g'.window ≡ g.window → g'.origin ≡ (g.origin + L) % g.window
      → Stands g' i d bytes h4 s → Stands g i (d + L) bytes h4 s
  stands_back g g' L i d s p w o f =
      let e : place_in g' i d ≡ place_in g i (d + L) = place_moved g g' L i d p w o in
      record { bytes = λ k m. rw e at (f.bytes k (rw p m)); last = rw (e, p) at f.last }

  -- an epoch passed
  passed_claimed : (n : ℕ) (s : List (List ℕ)) (k : Lasting s) → (group_at s).count ≡ n → (store other : List ℕ) → flag_of (group_at s).begun ≡ true → brought (group_at s) s n ≡ true → (j : ℕ) → j < n
      → Claimed (passed_of (group_at s) other n s) store j tag bytes h4 → Claimed s store j tag bytes h4
  passed_claimed n s k count store other begun due j b c =
      let g : Group = group_at s in
      let enough : rows_for n ≤ length s = (let r = k.rows in let e = count in omega arith) in
      let group : group_at (passed_of (group_at s) other n s) ≡ passed_group (group_at s) = passed_group_lem g other n s (omega arith) in
      let port : port_at (passed_of (group_at s) other n s) j ≡ passed_on (group_at s) other j (port_at s j) = passed_of_port g other n s j b enough in
      let W = windowed g k.group in
      let some : 0 < g.window = (let least = W.least in let more = frames_two g.kind in omega arith) in
      let claims : Claims (passed_group (group_at s)) (passed_step (port_at s j).step (first_mark (port_at s j).marks)) (passed_marks (port_at s j).marks) c.at = rw (group, port) at c.claims in
      let tag_is : tag ≡ tag_in (passed_group (group_at s)) c.at = rw group at c.tag_is in
      let stands : Stands (passed_group (group_at s)) j c.at bytes h4 store = rw group at c.stands in
      record {
        at = c.at + frames g.kind;
        claims = passed_claims g (port_at s j).step (port_at s j).marks (k.ports j (let e = count in omega arith)).kept begun (brought_owes_nothing g s n due j b) c.at claims;
        tag_is = tag_is ∙ tag_passed g (passed_group g) c.at (passed_kind g) (passed_oldest g);
        stands =
            stands_back g (passed_group g) (frames g.kind) j c.at store (passed_payload g) (passed_window g) (passed_origin g some) stands;
      }

  -- nothing is claimed after a stop
  stopped_none : (g : Group) (n : ℕ) (s : List (List ℕ)) → rows_for n ≤ length s → (store : List ℕ) (j : ℕ) → Claimed (stopped_of g n s) store j tag bytes h4 → ⊥
  stopped_none g n s l store j c =
      let e : flag_of (group_at (stopped_of g n s)).begun ≡ true = c.claims.begun in
      false≢true (rw (stopped_group g n s (omega arith)) at e)

  -- nor after a beginning
  begun_none : (g : Group) (n : ℕ) (s : List (List ℕ)) → rows_for n ≤ length s → (store : List ℕ) (j : ℕ) → j < n → Claimed (begun_of g n s) store j tag bytes h4 → ⊥
  begun_none g n s l store j b c =
      let port : port_at (begun_of g n s) j ≡ cleared_on g true (port_at s j) = begun_port g n s j b l in
      let q : Step = cleared_step (port_at s j).step (in_step g (port_at s j).step) in
      let claims : Claims (group_at (begun_of g n s)) (cleared_step (port_at s j).step (in_step g (port_at s j).step)) (replicate 16 0) c.at = rw port at c.claims in
      ⊎_elim (λ (m : mark_in (replicate 16 0) (c.at / frames (group_at (begun_of g n s)).kind) ≡ true). false≢true (sym (mark_none (c.at / frames (group_at (begun_of g n s)).kind)) ∙ m))
      (λ (p : Part (group_at (begun_of g n s)) (cleared_step (port_at s j).step (in_step g (port_at s j).step)) c.at).
      let e : flag_of (cleared_step (port_at s j).step (in_step g (port_at s j).step)).joined ≡ true = p.joined in
      false≢true (rw (cleared_joined (port_at s j).step (in_step g (port_at s j).step)) at e))
      claims.has

  -- states and RS-Ack worked out
  told_claimed : (g : Group) (n : ℕ) (s : List (List ℕ)) → g ≡ group_at s → rows_for n ≤ length s → (store : List ℕ) (j : ℕ) → j < n → Claimed (states_worked_out g n s) store j tag bytes h4
      → Claimed s store j tag bytes h4
  unfolding with_state
  told_claimed g n s same l store j b c =
      let ack : ℕ = ack_of (reply_ports g s n) (size_of n) g.rs_ack in
      let group : group_at (states_worked_out g n s) ≡ with_ack g ack = told_group g n s (omega arith) in
      let port : port_at (states_worked_out g n s) j ≡ told_on (port_at s j) (get_or (states_in g n s) j no_standing) = told_of_port g n s j b l in
      let claims : Claims (with_ack g ack) (port_at s j).step (port_at s j).marks c.at = rw (group, port) at c.claims in
      let tag_is : tag ≡ tag_in (with_ack g ack) c.at = rw group at c.tag_is in
      let stands : Stands (with_ack g ack) j c.at bytes h4 store = rw group at c.stands in
      record {
        at = c.at;
        claims = rw (← same) (ack_claims g ack (port_at s j).step (port_at s j).marks c.at claims);
        tag_is = rw (← same) (tag_is ∙ ack_tag g ack c.at);
        stands = rw (← same) (stands_same (with_ack g ack) g j c.at bytes h4 store refl refl refl stands);
      }

  -- a frame, before anything follows from it for all ports
  module _ (s : List (List ℕ)) (k : Kept s) (i : ℕ) (failed : Bool) (h : ℕ) (payload store : List ℕ) (o : Counts s i failed h payload store) where
    abbrev g : Group
    g = group_at s

    abbrev n : ℕ
    n = (group_at s).count

    abbrev t : Taken
    t = taken_in s i failed h

    abbrev a : List (List ℕ)
    a = port_after s i failed h

    abbrev st : List ℕ
    st = store_after s i failed h payload store

    enough : rows_for n ≤ length s
    enough = let r = k.lasting.rows in omega arith

    W : Windowed g
    W = windowed g k.lasting.group

    same : group_at a ≡ g
    same = after_group s i failed h

    in_step_lem : step_at s i ≡ (port_at s i).step
    in_step_lem = sym (port_step s i)

    inside : is_kept t ≡ true → (kept_at t) < g.window
    inside e = taken_inside g (step_at s i) failed (odd_in s i h) h e

    -- a frame that stands and is not the one put stood before
    stood : (j d : ℕ) → d < g.window → (is_kept t ≡ true → j ≡ i → d ≡ (kept_at t) → ⊥) → Stands g j d bytes h4 st → Stands g j d bytes h4 store
    unfolding store_by
    stood j d l apart f = go (is_kept t) refl f
      where
        go : (b : Bool) → is_kept (taken_in s i failed h) ≡ b → Stands (group_at s) j d bytes h4 (cond b (stored_at store (place_in (group_at s) i (kept_at (taken_in s i failed h))) payload h) store)
            → Stands (group_at s) j d bytes h4 store
        go true e f =
            let elsewhere = stored_elsewhere g j i d (kept_at t) payload h store l (inside e) (apart e) o.bytes in
            record { bytes = λ m c. sym (elsewhere m (omega arith)) ∙ f.bytes m c; last = sym (elsewhere g.payload (omega arith)) ∙ f.last }
        go false e f = f

    -- and the one put is the frame handed
    put : (d : ℕ) → is_kept t ≡ true → d ≡ (kept_at t) → Stands g i d bytes h4 st → (h4 ≡ h) × ((m : ℕ) → m < g.payload → get_or bytes m 0 ≡ get_or payload m 0)
    unfolding store_by store_for
    put d e q f =
        let some : 0 < g.window = (let least = W.least in let more = frames_two g.kind in omega arith) in
        let f : Stands g i (kept_at t) bytes h4 (stored_at store (place_in g i (kept_at t)) payload h) = rw (e, q) at f in
        let p : Stands g i (kept_at t) payload h (stored_at store (place_in g i (kept_at t)) payload h) = stands_put g n i (kept_at t) payload h store some o.port o.stored o.bytes in
        (sym f.last ∙ p.last, λ m c. sym (f.bytes m c) ∙ p.bytes m c)

    other_claimed : (j : ℕ) → j ≢ i → j < n → Claimed a st j tag bytes h4 → Claimed s store j tag bytes h4
    other_claimed j d b c =
        let port : port_at (port_after s i failed h) j ≡ port_at s j = frame_other g.kind s i t h j d in
        let claims : Claims (group_at s) (port_at s j).step (port_at s j).marks c.at = rw (same, port) at c.claims in
        let stands : Stands (group_at s) j c.at bytes h4 st = rw same at c.stands in
        record {
          at = c.at;
          claims = claims;
          tag_is = rw same at c.tag_is;
          stands = stood j c.at (claims_inside g (port_at s j).step (port_at s j).marks (k.lasting.ports j b).kept c.at claims) (λ e z. absurd (d z)) stands;
        }

    own_claimed : Claimed a st i tag bytes h4 → Claimed s store i tag bytes h4 ⊎ Handed s i failed h payload store i tag bytes h4
    own_claimed c =
        let is : taken_in s i failed h ≡ taken_of (group_at s) (port_at s i).step failed (odd_in s i h) h = ap (λ (q : Step). taken_of g q failed (odd_in s i h) h) in_step_lem in
        let port : port_at (port_after s i failed h) i ≡ frame_on g.kind (port_at s i) t h = frame_port g.kind s i t h n o.port enough in
        let kept : PortKept (group_at s) (port_at s i).step (port_at s i).marks = (k.lasting.ports i o.port).kept in
        let claims : Claims (group_at s) t.step (marks_by g.kind (port_at s i).marks t) c.at = rw (same, port) at c.claims in
        let stands : Stands (group_at s) i c.at bytes h4 st = rw same at c.stands in
        let tag_is : tag ≡ tag_in (group_at s) c.at = rw same at c.tag_is in
        let found : New (group_at s) (port_at s i).step failed t c.at ⊎ Old (group_at s) (port_at s i).step (port_at s i).marks t c.at =
        rw is (taken_claims g (port_at s i).step (port_at s i).marks failed (odd_in s i h) h W kept c.at (rw is at claims)) in
        ⊎_elim
        (λ (w : New (group_at s) (port_at s i).step failed t c.at).
        let q = put c.at w.kept w.at stands in
        let next : tag ≡ (port_at s i).step.next =
        tag_is ∙ ap (λ (d : ℕ). tag_in g d) (w.at ∙ w.next) ∙ tag_next g (port_at s i).step.next kept.run.tag in
        inr (record {
          port = refl;
          unflagged = w.unflagged;
          answer = taken_answer s i failed h payload store o.unrefused ∙ w.answer;
          tag_is = next;
          h4_is = q.0;
          bytes_are = q.1;
        }))
        (λ (w : Old (group_at s) (port_at s i).step (port_at s i).marks t c.at).
        inl (record {
          at = c.at;
          claims = w.claims;
          tag_is = tag_is;
          stands = stood i c.at (claims_inside g (port_at s i).step (port_at s i).marks kept c.at w.claims) (λ e z. w.apart e) stands;
        }))
        found

    pub taken_claimed : (j : ℕ) → j < n → Claimed a st j tag bytes h4 → Claimed s store j tag bytes h4 ⊎ Handed s i failed h payload store j tag bytes h4
    taken_claimed j b c =
        ⊎_elim (λ (e : j ≡ i). rw e (own_claimed (rw e at c))) (λ (d : j ≢ i). inl (other_claimed j d b c)) (eq_or_ne j i)

    lasting : Lasting a
    lasting = lasting_frame s k.lasting i failed h o.port

    count : (group_at a).count ≡ n
    count = ap (λ (x : Group). x.count) same

    -- and what follows from it
    settled_claimed : (j : ℕ) → j < n → Claimed (settled_of n st a) st j tag bytes h4 → Claimed a st j tag bytes h4
    settled_claimed j b =
        settled_by_lem (λ (r : List (List ℕ)). Claimed r st j tag bytes h4 → Claimed a st j tag bytes h4) n st a o.long
        (λ c. c)
        (λ on q f w c. passed_claimed n a lasting count st st on w j b c)
        (λ off w c. absurd (begun_none (group_at a) n a o.long st j b c))
        (λ on q c. absurd (stopped_none (group_at a) n a o.long st j c))
        (λ on q c.
        let z : List (List ℕ) = stopped_of (group_at a) n a in
        absurd (begun_none (group_at z) n z (rw (length_stopped (group_at a) n a) o.long) st j b c))

  pub frame_claimed : (s : List (List ℕ)) → Kept s → (i : ℕ) (failed : Bool) (h : ℕ) (payload store : List ℕ) (j : ℕ) → j < (group_at s).count
      → Claimed (frame_of s i failed h payload store).rows (frame_of s i failed h payload store).store j tag bytes h4
      → Claimed s store j tag bytes h4 ⊎ Handed s i failed h payload store j tag bytes h4
  frame_claimed s k i failed h payload store j b =
      frame_by_lem (λ (r : List (List ℕ)) (m : List ℕ). Claimed r m j tag bytes h4 → Claimed s store j tag bytes h4 ⊎ Handed s i failed h payload store j tag bytes h4) s k i failed h payload store
      (λ c. inl c)
      (λ o c. taken_claimed s k i failed h payload store o j b (settled_claimed s k i failed h payload store o j b c))

  pub fetch_claimed : (s : List (List ℕ)) → Kept s → (store out report : List ℕ) (j : ℕ) → j < (group_at s).count → Claimed (fetch_of s store out report).rows store j tag bytes h4
      → Claimed s store j tag bytes h4
  unfolding reported_of
  fetch_claimed s k store out report j b =
      fetch_cases s store out report (λ r. Claimed r store j tag bytes h4 → Claimed s store j tag bytes h4) (λ c. c)
      (λ e d c.
      let q : Due (group_at s) (group_at s).count s = due_says (group_at s) (group_at s).count s (rw ports at d) in
      let p : List (List ℕ) = passed_of (group_at s) store (group_at s).count s in
      let l : rows_for (group_at s).count ≤ length p = rw (length_passed (group_at s) store (group_at s).count s) (let r = k.lasting.rows in omega arith) in
      passed_claimed (group_at s).count s k.lasting refl store store q.begun q.brought j b
      (told_claimed (group_at p) (group_at s).count p refl l store j b (rw ports at c)))
    where
      ports : ports_in (group_at s) ≡ (group_at s).count
      ports = ports_are (group_at s) k.lasting.group.sizes

  -- of every call
  pub call_claimed : (x : Receiver) (c : ReceiverCall) → Kept x.rows → (j : ℕ) → j < (group_at x.rows).count
      → Claimed (receiver_after x c).rows (receiver_after x c).store j tag bytes h4 → Claimed x.rows x.store j tag bytes h4 ⊎ HandedBy tag bytes h4 x c j
  call_claimed x (Frame i failed h payload) k j b c = frame_claimed x.rows k i failed h payload x.store j b c
  call_claimed x (Fetch out report) k j b c = inl (fetch_claimed x.rows k x.store out report j b c)

  still : (x : Receiver) (calls : List ReceiverCall) (j : ℕ) → ClaimedOn tag bytes h4 x calls j → Claimed x.rows x.store j tag bytes h4
  still x [] j c = c
  still x (call ∷ calls) j c = c.0

  pub run_claimed : (x : Receiver) (calls : List ReceiverCall) → Kept x.rows → (j : ℕ) → j < (group_at x.rows).count
      → Claimed (receiver_run x calls).rows (receiver_run x calls).store j tag bytes h4 → ClaimedOn tag bytes h4 x calls j ⊎ HandedLast tag bytes h4 x calls j
  run_claimed x [] k j b c = inl c
  run_claimed x (call ∷ calls) k j b c =
      let y : Receiver = receiver_after x call in
      let rest : ClaimedOn tag bytes h4 y calls j ⊎ HandedLast tag bytes h4 y calls j = run_claimed y calls (call_kept x call k) j (rw (call_sizes x call k).count b) c in
      ⊎_elim
      (λ (p : ClaimedOn tag bytes h4 y calls j).
      ⊎_elim (λ (q : Claimed x.rows x.store j tag bytes h4). inl (q, p)) (λ (q : HandedBy tag bytes h4 x call j). inr (inl (q, p))) (call_claimed x call k j b (still y calls j p)))
      (λ (p : HandedLast tag bytes h4 y calls j). inr (inr p)) rest

  -- After a start and any calls, every frame that a port claims was handed in one of them, and has been claimed after each call since: it is the last one handed with its tag since the port joined.
  pub claimed_handed : (kind count P W : ℕ) (hold restore : List ℕ) (rows : List (List ℕ)) (store : List ℕ) → start_as_answer kind count P W (length store) hold restore (length rows) ≡ 0 → (calls : List ReceiverCall) (j : ℕ) → j < count
      → Claimed (receiver_run (started_with kind count P W hold restore rows store) calls).rows (receiver_run (started_with kind count P W hold restore rows store) calls).store j tag bytes h4
      → HandedLast tag bytes h4 (started_with kind count P W hold restore rows store) calls j
  claimed_handed kind count P W hold restore rows store e calls j b c =
      let x : Receiver = started_with kind count P W hold restore rows store in
      let k : Kept x.rows = started_kept kind count P W (length store) hold restore rows e in
      let group : group_at (start_as_rows kind count P W (length store) hold restore rows) ≡ group_with kind count P W = started_with_lem kind count P W (length store) hold restore rows e in
      ⊎_elim (λ (p : ClaimedOn tag bytes h4 x calls j). absurd (let w : flag_of (group_at (start_as_rows kind count P W (length store) hold restore rows)).begun ≡ true = (still x calls j p).claims.begun in false≢true (rw group at w)))
      (λ (p : HandedLast tag bytes h4 x calls j). p) (run_claimed x calls k j (rw group b) c)

-- What the first mark of a port says: all frames of the oldest epoch stand in the store.
pub mark_claimed : (s : List (List ℕ)) (store : List ℕ) (j : ℕ) → flag_of (group_at s).begun ≡ true → first_mark (port_at s j).marks ≡ true → (d : ℕ) → d < frames (group_at s).kind
    → Claimed s store j (tag_in (group_at s) d) (tabulate (group_at s).payload (λ k. get_or store (place_in (group_at s) j d + k) 0)) (h4_at (group_at s) j d store)
unfolding h4_at byte_at
mark_claimed s store j on first d b =
    let g : Group = group_at s in
    record {
      at = d;
      claims = record { begun = on; has = inl (rw (first_epoch g.kind d b) (sym (first_mark_lem (port_at s j).marks) ∙ first)) };
      tag_is = refl;
      stands = record { bytes = λ k m. sym (get_or_tabulate g.payload (λ k. get_or store (place_in g j d + k) 0) k 0 m); last = refl };
    }
