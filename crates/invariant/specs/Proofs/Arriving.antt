-- A frame's call, case by case: all stays, or the port's rows and the store change and then what follows for all ports.
use Rattle.std.specs.Prelude.{◌≡◌, ◌≢◌, Bool, List, ℕ, ◌≤◌, ◌<◌, length}
use Rattle.std.proofs.Common.{arith}
use Rattle.invariant.specs.Kept.Group.{Kept}
use Rattle.invariant.specs.Proofs.Settles.{settles_always}
use Rattle.ground.specs.Truth.{cond_by}
use Rattle.phases.specs.Settling.{settled_of}
use Rattle.phases.specs.Sizes.{ports_in, store_for}
use Rattle.receiver.specs.Frame.{FrameOutcome, frame_of, frame_refusal, settled_by, taken_in}
use Rattle.receiver.specs.Laws.Answers.{Fitting, unrefused}
use Rattle.receiver.specs.Laws.Frames.{frame_group, length_frame}
use Rattle.receiver.specs.Laws.Outcomes.{frame_cases}
use Rattle.receiver.specs.Laws.Sizes.{ports_are}
use Rattle.rows.specs.Group.{group_at}
use Rattle.rows.specs.Rows.{rows_for}
use Rattle.invariant.specs.Calls.{port_after, store_after}

-- they leave the group
pub after_group : (s : List (List ℕ)) (i : ℕ) (failed : Bool) (h : ℕ) → group_at (port_after s i failed h) ≡ group_at s
after_group s i failed h = frame_group (group_at s).kind s i (taken_in s i failed h) h

after_long : (s : List (List ℕ)) (i : ℕ) (failed : Bool) (h n : ℕ) → length s ≡ rows_for n → rows_for n ≤ length (port_after s i failed h)
after_long s i failed h n e = rw (length_frame (group_at s).kind s i (taken_in s i failed h) h) (omega arith)

-- of a frame that is answered 0, 10 or 12
pub record Counts (s : List (List ℕ)) (i : ℕ) (failed : Bool) (h : ℕ) (payload store : List ℕ) : Type 0 where
  pub unrefused : frame_refusal s i (length payload) (length store) ≡ 0
  pub port : i < (group_at s).count
  pub bytes : length payload ≡ (group_at s).payload
  pub stored : length store ≡ store_for (group_at s) (group_at s).count
  pub answer : (taken_in s i failed h).answer ≢ 11
  -- there are rows for all ports
  pub long : rows_for (group_at s).count ≤ length (port_after s i failed h)

pub frame_by_lem : (P : List (List ℕ) → List ℕ → Type 0) (s : List (List ℕ)) → Kept s → (i : ℕ) (failed : Bool) (h : ℕ) (payload store : List ℕ)
    → P s store
    → (Counts s i failed h payload store → P (settled_of (group_at s).count (store_after s i failed h payload store) (port_after s i failed h)) (store_after s i failed h payload store))
    → P (frame_of s i failed h payload store).rows (frame_of s i failed h payload store).store
frame_by_lem P s k i failed h payload store stays goes =
    frame_cases s i failed h payload store (λ (o : FrameOutcome). P o.rows o.store) (λ e. stays) (λ e f. stays) taken
  where
    ports : ports_in (group_at s) ≡ (group_at s).count
    ports = ports_are (group_at s) k.lasting.group.sizes

    taken : frame_refusal s i (length payload) (length store) ≡ 0 → (taken_in s i failed h).answer ≢ 11
        → P (settled_by (taken_in s i failed h).settles (ports_in (group_at s)) (store_after s i failed h payload store) (port_after s i failed h)) (store_after s i failed h payload store)
    taken none other =
        let o : Fitting (group_at s) (ports_in (group_at s)) i (length s) (length payload) (length store) = unrefused (group_at s) (ports_in (group_at s)) i (length s) (length payload) (length store) none in
        let b : i < (group_at s).count = rw ports at o.port in
        rw (ports, settles_always s k i failed h b (store_after s i failed h payload store))
        (goes (record {
          unrefused = none;
          port = b;
          bytes = o.bytes;
          stored = rw ports at o.stored;
          answer = other;
          long = after_long s i failed h (group_at s).count k.lasting.rows;
        }))

-- The same on every state: what follows may or may not be looked at.
pub frame_any : (P : List (List ℕ) → Type 0) (s : List (List ℕ)) (i : ℕ) (failed : Bool) (h : ℕ) (payload store : List ℕ)
    → P s
    → (frame_refusal s i (length payload) (length store) ≡ 0 → (taken_in s i failed h).answer ≢ 11 → P (port_after s i failed h))
    → (frame_refusal s i (length payload) (length store) ≡ 0 → (taken_in s i failed h).answer ≢ 11 → rows_for (ports_in (group_at s)) ≤ length (port_after s i failed h)
    → P (settled_of (ports_in (group_at s)) (store_after s i failed h payload store) (port_after s i failed h)))
    → P (frame_of s i failed h payload store).rows
unfolding settled_by
frame_any P s i failed h payload store stays alone goes =
    frame_cases s i failed h payload store (λ (o : FrameOutcome). P o.rows) (λ e. stays) (λ e f. stays)
    (λ none other.
    let o = unrefused (group_at s) (ports_in (group_at s)) i (length s) (length payload) (length store) none in
    let long = after_long s i failed h (ports_in (group_at s)) o.whole in
    cond_by P (taken_in s i failed h).settles _ _ (λ q. goes none other long) (λ q. alone none other))
