-- A receiver that has begun has a readable port. Where a report is due that port has joined and lies an epoch's frames or more behind the window's first frame, and at most W; each report brings the window nearer by an epoch's frames.
use Rattle.std.specs.Prelude.{◌≡◌, refl, Bool, true, false, ◌&&◌, ◌||◌, List, [], ◌∷◌, ℕ, suc, ◌+◌, ◌-◌, ◌*◌, ◌≤◌, ◌<◌, length}
use Rattle.std.proofs.Common.{sym, ap, ◌∙◌, ⊎_elim, suc-mul, zero-mul, arith}
use Rattle.std.proofs.lemmas.Bool.{false≢true}
use Rattle.ground.specs.Truth.{and_right, or_cases}
use Rattle.invariant.specs.Calls.{Fetch, Frame, Receiver, ReceiverCall, receiver_after}
use Rattle.invariant.specs.Kept.Group.{Kept}
use Rattle.invariant.specs.Kept.Port.{offset}
use Rattle.invariant.specs.Proofs.Calls.{call_kept}
use Rattle.invariant.specs.Proofs.Kept.Calls.{Due, due_says}
use Rattle.invariant.specs.Proofs.Kept.Passing.{ahead}
use Rattle.invariant.specs.Proofs.Kept.WithinCall.{brought_owes_nothing}
use Rattle.invariant.specs.Proofs.Laws.Flags.{true_or_false}
use Rattle.invariant.specs.Proofs.Laws.Window.{distance_passed}
use Rattle.invariant.specs.Proofs.Sizes.{fetch_sizes}
use Rattle.invariant.specs.Reports.{Given}
use Rattle.judge.specs.Seen.{size_of}
use Rattle.ground.specs.Counting.Laws.Tests.{some_not_none, some_one}
use Rattle.ground.specs.Counting.Words.{One}
use Rattle.none_due.specs.Fetches.{AllGive}
use Rattle.packet.specs.Kinds.{frames}
use Rattle.phases.specs.Due.{silent}
use Rattle.phases.specs.Laws.Lengths.{length_passed}
use Rattle.phases.specs.Laws.Passed.{passed_group_lem, passed_of_port}
use Rattle.phases.specs.Laws.Sizes.{SameSizes}
use Rattle.phases.specs.Passing.{passed_group, passed_of, passed_step}
use Rattle.phases.specs.Sizes.{ports_in}
use Rattle.phases.specs.Theorems.Settled.{passed_begun}
use Rattle.receiver.specs.Fetch.{fetch_of, rows_if_due}
use Rattle.receiver.specs.Laws.Passed.{step_joined}
use Rattle.receiver.specs.Laws.Sizes.{ports_are}
use Rattle.receiver.specs.Laws.Told.{told_group, told_of_port, with_ack}
use Rattle.receiver.specs.Report.{reply_ports, reported_of}
use Rattle.reply.specs.Telling.{ack_of}
use Rattle.rows.specs.declared.group.Group.{Group}
use Rattle.rows.specs.declared.step.Step.{Step}
use Rattle.rows.specs.Group.{group_at}
use Rattle.rows.specs.Laws.Port.{port_step}
use Rattle.rows.specs.Port.{Port, port_at}
use Rattle.rows.specs.Rows.{rows_for}
use Rattle.rows.specs.Step.{step_at}
use Rattle.step.specs.Arrival.{distance_in, flag_of, in_step, readable}
use Rattle.store.specs.Marks.{first_mark}

-- a port that has joined a receiver that has begun, so far behind the window's first frame
record BehindBy (far : ℕ) (g : Group) (q : Port) : Type 0 where
  joined : flag_of q.step.joined ≡ true
  begun : flag_of g.begun ≡ true
  far_is : offset g q.step ≡ far

abbrev Behind : ℕ → ℕ → List (List ℕ) → Type 0
Behind i far s = BehindBy far (group_at s) (port_at s i)

offset_passed : (g : Group) (q : Step) (w : Bool) → frames g.kind ≤ offset g q → offset (passed_group g) (passed_step q w) + frames g.kind ≡ offset g q
unfolding passed_group passed_step
offset_passed g q w h = distance_passed g (passed_group g) q.next refl refl h

ack_offset : (g : Group) (ack : ℕ) (q : Step) → offset (with_ack g ack) q ≡ offset g q
unfolding distance_in
ack_offset g ack q = refl

ports_of_lem : (s : List (List ℕ)) → Kept s → ports_in (group_at s) ≡ (group_at s).count
ports_of_lem s k = ports_are (group_at s) k.lasting.group.sizes

given_due : (s : List (List ℕ)) → Kept s → (store out report : List ℕ) → Given s store out report → Due (group_at s) (group_at s).count s
given_due s k store out report v = due_says (group_at s) (group_at s).count s (rw (ports_of_lem s k) at v.due)

-- a report brings the window nearer
nearer : (i far : ℕ) (s : List (List ℕ)) → Kept s → i < (group_at s).count → (store out report : List ℕ) → Given s store out report → Behind i far s
    → (frames (group_at s).kind ≤ far) × ((near : ℕ) → near + frames (group_at s).kind ≡ far → Behind i near (fetch_of s store out report).rows)
unfolding fetch_of rows_if_due reported_of
nearer i far s k b store out report v o =
    let g : Group = group_at s in
    let n : ℕ = (group_at s).count in
    let q : Step = (port_at s i).step in
    let d : Due (group_at s) (group_at s).count s = given_due s k store out report v in
    let enough : rows_for n ≤ length s = (let r = k.lasting.rows in omega arith) in
    let p : List (List ℕ) = passed_of (group_at s) store (group_at s).count s in
    let long : rows_for (group_at s).count ≤ length p = rw (length_passed g store n s) enough in
    let first : Bool = first_mark (port_at s i).marks in
    let on : frames g.kind ≤ offset g q = ahead g q (port_at s i).marks (k.lasting.ports i b).kept o.begun (brought_owes_nothing g s n d.brought i b) o.joined in
    let f = o.far_is in (
      omega arith,
      λ near e.
          let m = offset_passed g q first on in
          let there : Behind i near p =
          rw (passed_group_lem g store n s (omega arith), passed_of_port g store n s i b enough)
          (record { joined = ap flag_of (step_joined q first) ∙ o.joined; begun = rw (passed_begun g) o.begun; far_is = omega arith }) in
          rw (v.fitting, v.due, ports_of_lem s k, told_group (group_at p) n p (omega arith), told_of_port (group_at p) n p i b long)
          (record {
            joined = there.joined;
            begun = there.begun;
            far_is = ack_offset (group_at p) (ack_of (reply_ports (group_at p) p n) (size_of n) (group_at p).rs_ack) (port_at p i).step ∙ there.far_is;
          }),
    )

-- so many reports take so many frames
many : (i far : ℕ) (x : Receiver) (calls : List ReceiverCall) → Kept x.rows → i < (group_at x.rows).count → Behind i far x.rows → AllGive x calls
    → length calls * frames (group_at x.rows).kind ≤ far
many i far x [] k b o a = let z = zero-mul (frames (group_at x.rows).kind) in omega arith
many i far x (Frame port failed h payload ∷ calls) k b o a = absurd a
many i far x (Fetch out report ∷ calls) k b o a =
    let s : List (List ℕ) = x.rows in
    let f : ℕ = frames (group_at s).kind in
    let n = nearer i far s k b x.store out report a.0 o in
    let less : frames (group_at s).kind ≤ far = n.0 in
    let near : ℕ = far - frames (group_at s).kind in
    let e : near + frames (group_at s).kind ≡ far = omega arith in
    let z : SameSizes (group_at (fetch_of s x.store out report).rows) (group_at s) = fetch_sizes s k x.store out report in
    let c : i < (group_at (fetch_of s x.store out report).rows).count = rw z.count b in
    let rest : length calls * frames (group_at (fetch_of s x.store out report).rows).kind ≤ near =
    many i near (receiver_after x (Fetch out report)) calls (call_kept x (Fetch out report) k) c (n.1 near e) a.1 in
    let same : length calls * f ≤ near = rw z.kind at rest in
    let sum : suc (length calls) * f ≡ length calls * f + f = suc-mul (length calls) f in
    omega arith

-- a readable port where a report is due has joined
readable_joined : (s : List (List ℕ)) → Kept s → Due (group_at s) (group_at s).count s → (i : ℕ) → i < (group_at s).count → readable (group_at s) (port_at s i).step ≡ true
    → flag_of (port_at s i).step.joined ≡ true
unfolding readable
readable_joined s k d i b r =
    let g : Group = group_at s in
    let q : Step = (port_at s i).step in
    ⊎_elim (λ (j : flag_of q.joined ≡ true). j)
    (λ (e : flag_of q.ever_since ≡ true).
    ⊎_elim (λ (j : flag_of q.joined ≡ true). j)
    (λ (j : flag_of q.joined ≡ false).
    let w = ((k.lasting.ports i b).kept.waits e j).gathered in
    absurd (false≢true (sym (ap flag_of w) ∙ d.gathered)))
    (true_or_false (flag_of q.joined)))
    (or_cases (flag_of q.joined) (flag_of q.ever_since) (and_right (flag_of g.begun && in_step g q) (flag_of q.joined || flag_of q.ever_since) r))

heard_one : (g : Group) (s : List (List ℕ)) (n : ℕ) → silent g s n ≡ false → One n (λ i. readable g (step_at s i))
unfolding silent
heard_one g s n e = some_one n (λ i. readable g (step_at s i)) (some_not_none n (λ i. readable g (step_at s i)) e)

pub few_due : (x : Receiver) → Kept x.rows → (calls : List ReceiverCall) → AllGive x calls → length calls * frames (group_at x.rows).kind ≤ (group_at x.rows).window
few_due x k [] a = let z = zero-mul (frames (group_at x.rows).kind) in omega arith
few_due x k (Frame port failed h payload ∷ calls) a = absurd a
few_due x k (Fetch out report ∷ calls) a =
    let s : List (List ℕ) = x.rows in
    let n : ℕ = (group_at s).count in
    let d = given_due s k x.store out report a.0 in
    let heard : silent (group_at s) s n ≡ false = k.settled.heard d.begun in
    let one = heard_one (group_at s) s n heard in
    let i : ℕ = one.at in
    let r : readable (group_at s) (port_at s i).step ≡ true = rw (port_step s i) one.holds in
    let j = readable_joined s k d i one.below r in
    let o : Behind i (offset (group_at s) (port_at s i).step) s = record { joined = j; begun = d.begun; far_is = refl } in
    let m = many i (offset (group_at s) (port_at s i).step) x (Fetch out report ∷ calls) k one.below o a in
    let w : offset (group_at s) (port_at s i).step ≤ (group_at s).window = ((k.lasting.ports i one.below).kept.goes j).reach in
    omega arith

pub none_due_lem : (x : Receiver) → Kept x.rows → (calls : List ReceiverCall) → (group_at x.rows).window < length calls * frames (group_at x.rows).kind → AllGive x calls → ⊥
none_due_lem x k calls l a = let m = few_due x k calls a in omega arith
