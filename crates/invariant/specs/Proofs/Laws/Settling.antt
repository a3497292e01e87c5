-- What follows from a frame for all ports, case by case.
use Rattle.std.specs.Prelude.{◌≡◌, Bool, ◌&&◌, ℕ, ◌≤◌, length}
use Rattle.std.proofs.Math.Path.{ap}
use Rattle.std.proofs.Math.Bool.{true, false, not}
use mathlib.Core.List.{List}
use Rattle.std.proofs.Common.{arith}
use Rattle.std.proofs.lemmas.Bool.{not-true}
use Rattle.ground.specs.Truth.{and_left, and_right, clash, cond_by}
use Rattle.phases.specs.Beginning.{begins}
use Rattle.phases.specs.Due.{brought, silent}
use Rattle.phases.specs.Laws.Cleared.{stopped_group}
use Rattle.phases.specs.Laws.Lengths.{length_stopped}
use Rattle.phases.specs.Passing.{passed_of}
use Rattle.phases.specs.Settling.{begin_by, begun_of, gather_by, settled_of, stop_by, stopped_of}
use Rattle.phases.specs.Theorems.Settled.{begun_owes}
use Rattle.rows.specs.declared.group.Group.{Group}
use Rattle.rows.specs.Group.{group_at}
use Rattle.rows.specs.Rows.{rows_for}
use Rattle.step.specs.Arrival.{flag_of}

abbrev begun_in : List (List ℕ) → Bool
begun_in s = flag_of (group_at s).begun

abbrev gathered_in : List (List ℕ) → Bool
gathered_in s = flag_of (group_at s).gathered

module _ (P : List (List ℕ) → Type 0) (n : ℕ) (store : List ℕ) where
  -- gathering, where it can follow
  gather_by_lem : (s : List (List ℕ)) → P s → (begun_in s ≡ true → gathered_in s ≡ false → brought (group_at s) s n ≡ true → P (passed_of (group_at s) store n s))
      → P (gather_by (group_at s) store n s)
  unfolding gather_by
  gather_by_lem s stays gathers =
      cond_by P (begun_in s && not (gathered_in s) && brought (group_at s) s n) (passed_of (group_at s) store n s) s
      (λ e.
      let f = and_left (begun_in s && not (gathered_in s)) (brought (group_at s) s n) e in
      gathers (and_left (begun_in s) (not (gathered_in s)) f) (not-true (gathered_in s) (and_right (begun_in s) (not (gathered_in s)) f))
      (and_right (begun_in s && not (gathered_in s)) (brought (group_at s) s n) e))
      (λ e. stays)

  -- nothing is gathered in the call that begins
  begun_by : (s : List (List ℕ)) → rows_for n ≤ length s → begins (group_at s) s n ≡ true → P (begun_of (group_at s) n s)
      → P (gather_by (group_at (begun_of (group_at s) n s)) store n (begun_of (group_at s) n s))
  begun_by s l e p =
      let t : List (List ℕ) = begun_of (group_at s) n s in
      gather_by_lem t p (λ b f w. clash (brought (group_at t) t n) w (begun_owes (group_at s) n s l e))

  abbrev settled_from : List (List ℕ) → List (List ℕ)
  settled_from a = gather_by (group_at (begin_by (group_at a) n a)) store n (begin_by (group_at a) n a)

  abbrev After : List (List ℕ) → Type 0
  After b = P (gather_by (group_at b) store n b)

  -- the beginning, where it can follow
  begin_by_lem : (a : List (List ℕ)) → rows_for n ≤ length a → (begun_in a ≡ false → begins (group_at a) a n ≡ true → P (begun_of (group_at a) n a))
      → P (gather_by (group_at a) store n a) → P (settled_from a)
  unfolding begin_by
  begin_by_lem a l starts stays =
      cond_by After (not (begun_in a) && begins (group_at a) a n) (begun_of (group_at a) n a) a
      (λ e.
      let w : begins (group_at a) a n ≡ true = and_right (not (begun_in a)) (begins (group_at a) a n) e in
      begun_by a l w (starts (not-true (begun_in a) (and_left (not (begun_in a)) (begins (group_at a) a n) e)) w))
      (λ e. stays)

  abbrev From : List (List ℕ) → Type 0
  From a = P (settled_from a)

  pub settled_by_lem : (s : List (List ℕ)) → rows_for n ≤ length s
      → P s
      → (begun_in s ≡ true → silent (group_at s) s n ≡ false → gathered_in s ≡ false → brought (group_at s) s n ≡ true → P (passed_of (group_at s) store n s))
      → (begun_in s ≡ false → begins (group_at s) s n ≡ true → P (begun_of (group_at s) n s))
      → (begun_in s ≡ true → silent (group_at s) s n ≡ true → P (stopped_of (group_at s) n s))
      → (begun_in s ≡ true → silent (group_at s) s n ≡ true → P (begun_of (group_at (stopped_of (group_at s) n s)) n (stopped_of (group_at s) n s)))
      → P (settled_of n store s)
  unfolding settled_of stop_by
  settled_by_lem s l stays gathers starts stops anew =
      cond_by From (begun_in s && silent (group_at s) s n) (stopped_of (group_at s) n s) s
      (λ e.
      let b : begun_in s ≡ true = and_left (begun_in s) (silent (group_at s) s n) e in
      let q : silent (group_at s) s n ≡ true = and_right (begun_in s) (silent (group_at s) s n) e in
      let z : List (List ℕ) = stopped_of (group_at s) n s in
      let off : begun_in z ≡ false = ap (λ (g : Group). flag_of g.begun) (stopped_group (group_at s) n s (omega arith)) in
      begin_by_lem z (rw (length_stopped (group_at s) n s) l) (λ f w. anew b q)
      (gather_by_lem z (stops b q) (λ f x w. clash (begun_in z) f off)))
      (λ e.
      begin_by_lem s l starts
      (gather_by_lem s stays (λ b f w. gathers b (heard b e) f w)))
    where
      heard : begun_in s ≡ true → (begun_in s && silent (group_at s) s n) ≡ false → silent (group_at s) s n ≡ false
      heard b e = rw b at e
