-- What a frame and a fetch leave, case by case.
use Rattle.std.specs.Prelude.{◌≡◌, refl, ◌≢◌, Bool, true, false, List, ℕ, ◌≤◌, ◌<◌, eqb, ltb, length}
use Rattle.std.proofs.Common.{arith, eq-eqb, eqb-true}
use Rattle.std.proofs.lemmas.Bool.{eqb-false}
use Rattle.ground.specs.Truth.{cond_by}
use Rattle.phases.specs.Sizes.{ports_in}
use Rattle.receiver.specs.Fetch.{FetchOutcome, due_in, fetch_of, lent_fits, rows_if_due}
use Rattle.receiver.specs.Frame.{FrameOutcome, frame_of, frame_refusal, port_rows, refusal_by, settled_by, store_by, taken_frame, taken_in}
use Rattle.receiver.specs.Lengths.{frame_fits}
use Rattle.receiver.specs.Report.{reported_of}
use Rattle.rows.specs.declared.group.Group.{Group}
use Rattle.rows.specs.Group.{group_at}
use Rattle.step.specs.declared.arrival.Taken.{Taken}

-- a frame that is neither 1 nor 9 is answered as the step rule says
pub step_answer : (g : Group) (n : ℕ) (s : List (List ℕ)) (i : ℕ) (t : Taken) (h : ℕ) (payload store : List ℕ) → (taken_frame g n s i t h payload store).answer ≡ t.answer
unfolding taken_frame
step_answer g n s i t h payload store = cond_by (λ (o : FrameOutcome). o.answer ≡ t.answer) (eqb t.answer 11) _ _ (λ e. refl) (λ e. refl)

refusal_small : (g : Group) (n i rows payload store : ℕ) → refusal_by g n i rows payload store ≤ 9
unfolding refusal_by
refusal_small g n i rows payload store =
    cond_by (λ r. r ≤ 9) (ltb i n) _ _ (λ e. cond_by (λ r. r ≤ 9) (frame_fits g n rows payload store) _ _ (λ f. omega arith) (λ f. omega arith)) (λ e. omega arith)

module _ (s : List (List ℕ)) (i : ℕ) (failed : Bool) (h : ℕ) (payload store : List ℕ) where
  abbrev refusal : ℕ
  refusal = frame_refusal s i (length payload) (length store)

  abbrev t : Taken
  t = taken_in s i failed h

  -- refused; outside the window; counted
  pub frame_cases : (P : FrameOutcome → Type 0)
      → (eqb (frame_refusal s i (length payload) (length store)) 0 ≡ false → P (record { answer = frame_refusal s i (length payload) (length store); rows = s; store = store }))
      → (frame_refusal s i (length payload) (length store) ≡ 0 → (taken_in s i failed h).answer ≡ 11 → P (record { answer = (taken_in s i failed h).answer; rows = s; store = store }))
      → (frame_refusal s i (length payload) (length store) ≡ 0 → (taken_in s i failed h).answer ≢ 11 → P (record {
        answer = (taken_in s i failed h).answer;
        rows =
            settled_by (taken_in s i failed h).settles (ports_in (group_at s)) (store_by (group_at s) i (taken_in s i failed h) h payload store)
            (port_rows (group_at s).kind s i (taken_in s i failed h) h);
        store = store_by (group_at s) i (taken_in s i failed h) h payload store;
      }))
      → P (frame_of s i failed h payload store)
  unfolding frame_of taken_frame
  frame_cases P stays out goes =
      cond_by P (eqb refusal 0) _ _
      (λ e. cond_by P (eqb t.answer 11) _ _ (λ f. out (eqb-true refusal 0 e) (eqb-true t.answer 11 f)) (λ f. goes (eqb-true refusal 0 e) (eqb-false t.answer 11 f)))
      stays

  pub taken_answer : frame_refusal s i (length payload) (length store) ≡ 0 → (frame_of s i failed h payload store).answer ≡ (taken_in s i failed h).answer
  unfolding frame_of
  taken_answer e = rw (eq-eqb refusal 0 e) (step_answer (group_at s) (ports_in (group_at s)) s i t h payload store)

  -- what an answer above 9 says of the call
  pub answered_above : (a : ℕ) → 9 < a → (frame_of s i failed h payload store).answer ≡ a → (frame_refusal s i (length payload) (length store) ≡ 0) × ((taken_in s i failed h).answer ≡ a)
  answered_above a big =
      frame_cases (λ (o : FrameOutcome). o.answer ≡ a → (refusal ≡ 0) × (t.answer ≡ a))
      (λ e z. absurd (let w = refusal_small (group_at s) (ports_in (group_at s)) i (length s) (length payload) (length store) in omega arith)) (λ e f z. (e, z)) (λ e f z. (e, z))

-- all stays, or the report of the oldest epoch is given
pub fetch_cases : (s : List (List ℕ)) (store out report : List ℕ) (P : List (List ℕ) → Type 0) → P s
    → (lent_fits s store out report ≡ true → due_in (group_at s) (ports_in (group_at s)) s ≡ true → P (reported_of (group_at s) store (ports_in (group_at s)) s))
    → P (fetch_of s store out report).rows
unfolding fetch_of rows_if_due
fetch_cases s store out report P stays goes =
    cond_by (λ (o : FetchOutcome). P o.rows) (lent_fits s store out report) _ _
    (λ f. cond_by P (due_in (group_at s) (ports_in (group_at s)) s) _ _ (λ d. goes f d) (λ d. stays)) (λ f. stays)
