-- Reports come in order, with no gap, from the first one after a beginning until receiving stops. On every state.
use Rattle.std.specs.Prelude.{◌≡◌, refl, Bool, true, false, cond, List, [], ◌∷◌, ℕ, suc, length}
use Rattle.std.proofs.Common.{ap, ◌∙◌, ⊎_elim, arith}
use Rattle.invariant.specs.Proofs.Arriving.{after_group, frame_any}
use Rattle.invariant.specs.Proofs.Kept.Calls.{due_says}
use Rattle.invariant.specs.Proofs.Laws.Settling.{settled_by_lem}
use Rattle.invariant.specs.Proofs.Reports.Groups.{fetch_group, fetch_none, frame_holds}
use Rattle.ground.specs.Truth.{and_left, and_right, clash}
use Rattle.packet.specs.Kinds.{epoch_after, epoch_of}
use Rattle.phases.specs.Beginning.{foremost}
use Rattle.phases.specs.Laws.Cleared.{begun_group}
use Rattle.phases.specs.Sizes.{ports_in}
use Rattle.phases.specs.Theorems.Settled.{passed_begun}
use Rattle.receiver.specs.Fetch.{due_in, fetch_of, lent_fits, report_if_due}
use Rattle.receiver.specs.Frame.{frame_of}
use Rattle.receiver.specs.Laws.Passed.{passed_gathered, passed_kind, passed_oldest}
use Rattle.receiver.specs.Report.{report_by, epoch_report}
use Rattle.rows.specs.declared.group.Group.{Group}
use Rattle.rows.specs.Group.{group_at}
use Rattle.step.specs.Arrival.{flag_of}
use Rattle.invariant.specs.Calls.{Fetch, Frame, Receiver, ReceiverCall, port_after, receiver_after, store_after}
use Rattle.invariant.specs.Reports.{Gathers, Unstopped, epoch_given, gives, next_report, reports_of, stops_with, successive}

-- a report's epoch is the oldest one
given_epoch : (g : Group) (n : ℕ) (s : List (List ℕ)) → due_in g n s ≡ true → (report_if_due g n s).epoch ≡ g.oldest
unfolding report_if_due epoch_report report_by
given_epoch g n s d = rw d refl

-- what a call leaves of it
pub record Goes (g h : Group) (next : ℕ) : Type 0 where
  pub kind : h.kind ≡ g.kind
  pub begun : flag_of h.begun ≡ true
  pub report : next_report h ≡ next

frame_goes : (x : Receiver) (i : ℕ) (failed : Bool) (h : ℕ) (payload : List ℕ) → flag_of (group_at x.rows).begun ≡ true → stops_with x.rows i failed h payload x.store ≡ false
    → Goes (group_at x.rows) (group_at (frame_of x.rows i failed h payload x.store).rows) (next_report (group_at x.rows))
frame_goes x i failed h payload b u =
    ⊎_elim (λ (e : group_at (frame_of x.rows i failed h payload x.store).rows ≡ group_at x.rows). rw e (record { kind = refl; begun = b; report = refl }))
    (λ (o : Gathers (group_at x.rows) (group_at (frame_of x.rows i failed h payload x.store).rows)).
    let g : Group = group_at x.rows in
    rw o.passed (record { kind = passed_kind g; begun = rw (passed_begun g) b; report = rw (passed_gathered g, passed_oldest g, o.first) refl }))
    (frame_holds x.rows i failed h payload x.store b u)

-- a fetch that gives a report says the oldest epoch, and moves on by one
pub given_goes : (x : Receiver) (out report : List ℕ) → gives x out report ≡ true
    → (epoch_given x ≡ next_report (group_at x.rows))
    × Goes (group_at x.rows) (group_at (fetch_of x.rows x.store out report).rows) (epoch_after (group_at x.rows).kind (next_report (group_at x.rows)))
given_goes x out report e =
    let s : List (List ℕ) = x.rows in
    let g : Group = group_at x.rows in
    let a : Bool = lent_fits s x.store out report in
    let d : due_in (group_at x.rows) (ports_in (group_at x.rows)) x.rows ≡ true = and_right a (due_in g (ports_in g) s) e in
    let o = due_says g (ports_in g) s d in (
      given_epoch g (ports_in g) s d ∙ rw o.gathered refl,
      rw (fetch_group s x.store out report (record { fitting = and_left a (due_in g (ports_in g) s) e; due = d }))
          (record { kind = passed_kind g; begun = rw (passed_begun g) o.begun; report = rw (passed_gathered g, passed_oldest g, o.gathered) refl }),
    )

successive_same : (k l d e n : ℕ) → k ≡ l → d ≡ e → successive k d n ≡ successive l e n
successive_same k l d e n p q = rw (p, q) refl

-- the reports of the rest, and the one before them
one_more : (kind e f n : ℕ) (rest : List ℕ) → rest ≡ successive kind f n → f ≡ epoch_after kind e → e ∷ rest ≡ successive kind e (suc n)
one_more kind e f n rest p q = rw (p, q) refl

-- By the calls: a frame leaves which epoch is reported next, and so does a fetch that gives none; one that gives a report gives that epoch, and the one after it is next.
pub in_order_lem : (x : Receiver) (calls : List ReceiverCall) → flag_of (group_at x.rows).begun ≡ true → Unstopped x calls
    → reports_of x calls ≡ successive (group_at x.rows).kind (next_report (group_at x.rows)) (length (reports_of x calls))
in_order_lem x [] b u = refl
in_order_lem x (Frame i failed h payload ∷ calls) b u =
    let y : Receiver = receiver_after x (Frame i failed h payload) in
    let o = frame_goes x i failed h payload b u.0 in
    in_order_lem y calls o.begun u.1
    ∙ successive_same (group_at y.rows).kind (group_at x.rows).kind (next_report (group_at y.rows)) (next_report (group_at x.rows)) (length (reports_of y calls)) o.kind o.report
in_order_lem x (Fetch out report ∷ calls) b u = go (gives x out report) refl (λ c. in_order_lem (receiver_after x (Fetch out report)) calls c u)
  where
    y : Receiver
    y = receiver_after x (Fetch out report)

    rest : List ℕ
    rest = reports_of (receiver_after x (Fetch out report)) calls

    m : ℕ
    m = length (reports_of (receiver_after x (Fetch out report)) calls)

    next : ℕ
    next = next_report (group_at (receiver_after x (Fetch out report)).rows)

    kind : ℕ
    kind = (group_at x.rows).kind

    go : (t : Bool) → gives x out report ≡ t
        → (flag_of (group_at (receiver_after x (Fetch out report)).rows).begun ≡ true → reports_of (receiver_after x (Fetch out report)) calls
        ≡ successive (group_at (receiver_after x (Fetch out report)).rows).kind (next_report (group_at (receiver_after x (Fetch out report)).rows)) (length (reports_of (receiver_after x (Fetch out report)) calls)))
        → cond t (epoch_given x ∷ reports_of (receiver_after x (Fetch out report)) calls) (reports_of (receiver_after x (Fetch out report)) calls)
        ≡ successive (group_at x.rows).kind (next_report (group_at x.rows))
        (length (cond t (epoch_given x ∷ reports_of (receiver_after x (Fetch out report)) calls) (reports_of (receiver_after x (Fetch out report)) calls)))
    go true e r =
        let o = given_goes x out report e in
        let more = r o.1.begun ∙ successive_same (group_at y.rows).kind kind next next m o.1.kind refl in
        ap (λ (a : ℕ). a ∷ rest) o.0 ∙ one_more kind (next_report (group_at x.rows)) next m rest more o.1.report
    go false e r =
        let same : (fetch_of x.rows x.store out report).rows ≡ x.rows = fetch_none x.rows x.store out report e in
        let group : group_at (fetch_of x.rows x.store out report).rows ≡ group_at x.rows = ap group_at same in
        r (rw group b)
        ∙ successive_same (group_at y.rows).kind kind next (next_report (group_at x.rows)) m (ap (λ (g : Group). g.kind) group) (ap next_report group)

-- 'The next epoch to start after the foremost tag is gathered' and 'the one after it is the first reported'.
pub first_reported : (s : List (List ℕ)) (i : ℕ) (failed : Bool) (h : ℕ) (payload store : List ℕ) → flag_of (group_at s).begun ≡ false
    → flag_of (group_at (frame_of s i failed h payload store).rows).begun ≡ true
    → next_report (group_at (frame_of s i failed h payload store).rows)
    ≡ epoch_after (group_at s).kind (epoch_after (group_at s).kind (epoch_of (group_at s).kind (foremost (group_at s) (port_after s i failed h) (ports_in (group_at s)))))
first_reported s i failed h payload store off =
    frame_any First s i failed h payload store
    (λ b. clash (flag_of (group_at s).begun) b off)
    (λ e f b. clash (flag_of (group_at s).begun) (rw same at b) off)
    (λ e f long.
    settled_by_lem First n st a long
    (λ b. clash (flag_of (group_at s).begun) (rw same at b) off)
    (λ b q z w c. clash (flag_of (group_at s).begun) (rw same at b) off)
    (λ b w c. rw (begun_group (group_at a) n a (omega arith), same) refl)
    (λ b q c. clash (flag_of (group_at s).begun) (rw same at b) off)
    (λ b q c. clash (flag_of (group_at s).begun) (rw same at b) off))
  where
    n : ℕ
    n = ports_in (group_at s)

    a : List (List ℕ)
    a = port_after s i failed h

    st : List ℕ
    st = store_after s i failed h payload store

    same : group_at (port_after s i failed h) ≡ group_at s
    same = after_group s i failed h

    First : List (List ℕ) → Type 0
    First r =
        flag_of (group_at r).begun ≡ true
        → next_report (group_at r) ≡ epoch_after (group_at s).kind (epoch_after (group_at s).kind (epoch_of (group_at s).kind (foremost (group_at s) (port_after s i failed h) (ports_in (group_at s)))))
