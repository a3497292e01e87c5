-- The group's record after a frame and after a fetch, on every state.
use Rattle.std.specs.Prelude.{◌≡◌, refl, ◌⊎◌, Bool, true, false, ◌&&◌, List, ℕ, ◌<◌, eqb, length}
use Rattle.std.proofs.Common.{sym, ap, ◌∙◌, inl, inr, true≢false, arith, eq-eqb, ne_eqb}
use Rattle.invariant.specs.Proofs.Arriving.{after_group, frame_any}
use Rattle.invariant.specs.Proofs.Kept.Calls.{Due, due_says}
use Rattle.invariant.specs.Proofs.Laws.Settling.{settled_by_lem}
use Rattle.ground.specs.Truth.{clash}
use Rattle.judge.specs.Seen.{size_of}
use Rattle.phases.specs.Due.{silent}
use Rattle.phases.specs.Laws.Lengths.{length_passed}
use Rattle.phases.specs.Laws.Passed.{passed_group_lem}
use Rattle.phases.specs.Passing.{passed_group}
use Rattle.phases.specs.Sizes.{ports_in}
use Rattle.receiver.specs.Fetch.{due_in, fetch_of, lent_fits, rows_if_due}
use Rattle.receiver.specs.Frame.{frame_of, frame_refusal, taken_in}
use Rattle.receiver.specs.Laws.Answers.{lent}
use Rattle.receiver.specs.Laws.Outcomes.{fetch_cases}
use Rattle.receiver.specs.Laws.Passed.{passed_ack}
use Rattle.receiver.specs.Laws.Told.{told_group, with_ack}
use Rattle.receiver.specs.Report.{reply_ports, reported_of}
use Rattle.reply.specs.Telling.{ack_of}
use Rattle.rows.specs.declared.group.Group.{Group}
use Rattle.rows.specs.Group.{group_at}
use Rattle.rows.specs.Rows.{rows_for}
use Rattle.step.specs.Arrival.{flag_of}
use Rattle.invariant.specs.Calls.{port_after, store_after}
use Rattle.invariant.specs.Reports.{Gathers, Given, ack_after, passed_rows, stops_with}

pub frame_holds : (s : List (List ℕ)) (i : ℕ) (failed : Bool) (h : ℕ) (payload store : List ℕ) → flag_of (group_at s).begun ≡ true → stops_with s i failed h payload store ≡ false
    → (group_at (frame_of s i failed h payload store).rows ≡ group_at s) ⊎ Gathers (group_at s) (group_at (frame_of s i failed h payload store).rows)
frame_holds s i failed h payload store begun goes =
    frame_any (λ (r : List (List ℕ)). (group_at r ≡ group_at s) ⊎ Gathers (group_at s) (group_at r)) s i failed h payload store
    (inl refl)
    (λ e f. inl same)
    (λ e f long.
    let heard : silent (group_at s) (port_after s i failed h) n ≡ true → ⊥ =
    (λ q. true≢false (sym (stops (eq-eqb (frame_refusal s i (length payload) (length store)) 0 e) (ne_eqb (taken_in s i failed h).answer 11 f) q) ∙ goes)) in
    settled_by_lem (λ (r : List (List ℕ)). (group_at r ≡ group_at s) ⊎ Gathers (group_at s) (group_at r)) n st a long
    (inl same)
    (λ b q z w. inr (record { first = rw same at z; passed = passed_group_lem (group_at a) st n a (omega arith) ∙ ap passed_group same }))
    (λ b w. clash (flag_of (group_at s).begun) begun (rw same at b))
    (λ b q. absurd (heard (rw same at q)))
    (λ b q. absurd (heard (rw same at q))))
  where
    n : ℕ
    n = ports_in (group_at s)

    a : List (List ℕ)
    a = port_after s i failed h

    st : List ℕ
    st = store_after s i failed h payload store

    same : group_at (port_after s i failed h) ≡ group_at s
    same = after_group s i failed h

    stops : eqb (frame_refusal s i (length payload) (length store)) 0 ≡ true → eqb (taken_in s i failed h).answer 11 ≡ false
        → silent (group_at s) (port_after s i failed h) (ports_in (group_at s)) ≡ true → stops_with s i failed h payload store ≡ true
    stops e f q = rw (e, f, begun, q) refl

pub fetch_group : (s : List (List ℕ)) (store out report : List ℕ) → Given s store out report
    → group_at (fetch_of s store out report).rows ≡ with_ack (passed_group (group_at s)) (ack_after s store)
unfolding fetch_of rows_if_due reported_of lent_fits
fetch_group s store out report o =
    let n : ℕ = ports_in (group_at s) in
    let p : List (List ℕ) = passed_rows s store in
    let d : Due (group_at s) n s = due_says (group_at s) n s o.due in
    let rows : length s ≡ rows_for n = (lent (group_at s) n (length s) (length store) (length out) (length report) o.fitting).whole d.some in
    let some : 0 < length s = omega arith in
    let passed : group_at (passed_rows s store) ≡ passed_group (group_at s) = passed_group_lem (group_at s) store n s some in
    rw (o.fitting, o.due)
    (told_group (group_at p) n p (rw (length_passed (group_at s) store n s) some)
    ∙ ap (λ (x : Group). with_ack x (ack_of (reply_ports (group_at p) p n) (size_of n) x.rs_ack)) passed
    ∙ ap (λ (b : ℕ). with_ack (passed_group (group_at s)) (ack_of (reply_ports (group_at p) p n) (size_of n) b)) (passed_ack (group_at s)))

pub fetch_none : (s : List (List ℕ)) (store out report : List ℕ) → (lent_fits s store out report && due_in (group_at s) (ports_in (group_at s)) s) ≡ false → (fetch_of s store out report).rows ≡ s
fetch_none s store out report e =
    fetch_cases s store out report (λ r. r ≡ s) refl (λ f d. absurd (true≢false (sym (rw (f, d) refl) ∙ e)))
