-- The loop that judges the changes, and each way out of applying them.
use Rattle.std.specs.Prelude.{Ok, Err, ◌⊎◌}
use Rattle.std.proofs.Common.{inl, inr}
use mathlib.Core.Path.{◌≡◌, refl, sym, ◌∙◌, ap}
use mathlib.Core.Bool.{Bool, true, false}
use mathlib.Core.List.{List}
use Prim.Native.Nat.{ℕ, zero, suc, ◌+◌, ◌%◌, ◌≤◌, ◌<◌}
use native.Mathlib.Omega.{arith}
use lib.Dec.{ltb}
use lib.ListN.{length, length-take, take}
use lib.Seq.{get_or-take, length-take-le}
use borrow.Author.Tests.{le-leb, lt-leb, ltb-true}
use Rattle.ground.specs.Counting.Laws.Tests.{every_ext, every_fails, every_on}
use Rattle.sender.specs.declared.board.Board.{Board}
use Rattle.sender.specs.declared.board.Row.{Row}
use Rattle.sender.specs.Ranks.{row_at}
use Rattle.spoken.specs.Answers.{told_board}
use Rattle.spoken.specs.declared.lists.Refusal.TheVariants as R
use Rattle.spoken.specs.declared.lists.Change.{Change}
use Rattle.spoken.specs.declared.lists.Changes.{Changes}
use Rattle.spoken.specs.Changes.{no_change}
use Rattle.spoken.specs.Applying.{applied_of, change_in, changes_fit, fits, fits_by, laid_to, rises_at, wait_after, wait_fits, with_changes}
use Rattle.spoken.specs.Theorems.NoOther.{fits_said}

-- a slot that no board has is refused whatever row is looked at
by_row : (rows : List Row) (count : ℕ) (c : Change) (rises : Bool) → count ≤ 64 → fits_by c (row_at rows (c.slot % 64)) count rises ≡ fits_by c (row_at rows c.slot) count rises
by_row rows count c rises h = go (ltb c.slot count) refl
  where
    go : (b : Bool) → ltb c.slot count ≡ b → fits_by c (row_at rows (c.slot % 64)) count rises ≡ fits_by c (row_at rows c.slot) count rises
    go true e =
        let l = ltb-true c.slot count e in
        let s : c.slot % 64 ≡ c.slot = omega arith in
        rw s
    go false e = rw e

module _ (rows : List Row) (count : ℕ) (list : List Change) (k : ℕ) (few : count ≤ 64) (r : Bool)
    (e : r ≡ fits_by (change_in list k) (row_at rows ((change_in list k).slot % 64)) count (rises_at list k)) where
  own : r ≡ fits_by (change_in list k) (row_at rows (change_in list k).slot) count (rises_at list k)
  own = e ∙ by_row rows count (change_in list k) (rises_at list k) few

  pub fit_on : changes_fit rows count list k ≡ true → r ≡ true → changes_fit rows count list (k + 1) ≡ true
  unfolding changes_fit
  fit_on f t = every_on (λ j. fits_by (change_in list j) (row_at rows (change_in list j).slot) count (rises_at list j)) k f (sym own ∙ t)

  pub fit_fails : (n : ℕ) → k < n → r ≡ false → false ≡ changes_fit rows count list n
  unfolding changes_fit
  fit_fails n h t = sym (every_fails n (λ j. fits_by (change_in list j) (row_at rows (change_in list j).slot) count (rises_at list j)) k h (sym own ∙ t))

-- what stands behind the first n changes is not looked at
pub taken_change : (list : List Change) (n k : ℕ) → k < n → change_in (take n list) k ≡ change_in list k
taken_change list n k h = get_or-take n list k no_change h

pub taken_rises : (list : List Change) (n k : ℕ) → k < n → rises_at (take n list) k ≡ rises_at list k
taken_rises list n zero h = refl
taken_rises list n (suc k) h = rw (taken_change list n k (omega arith), taken_change list n (suc k) h) refl

pub taken_fit : (rows : List Row) (count : ℕ) (list : List Change) (n : ℕ) → changes_fit rows count (take n list) n ≡ changes_fit rows count list n
unfolding changes_fit
taken_fit rows count list n =
    every_ext n _ _ (λ k h. rw (taken_change list n k h, taken_rises list n k h) refl)

pub taken_laid : (rows : List Row) (list : List Change) (n m : ℕ) → m ≤ n → laid_to rows (take n list) m ≡ laid_to rows list m
taken_laid rows list n zero h = refl
taken_laid rows list n (suc m) h = rw (taken_laid rows list n m (omega arith), taken_change list n m (omega arith)) refl

pub taken_slots : (list : List Change) (n : ℕ) (spoken : List Change) → spoken ≡ take n list → ((k : ℕ) → k < n → (change_in list k).slot < 64)
    → (k : ℕ) → k < length spoken → (change_in spoken k).slot < 64
taken_slots list n spoken s h k l =
    let t = ap length s ∙ length-take n list in
    let m : k < n = omega arith in
    rw (s, taken_change list n k m) (h k m)

module _ (b : Board) (cs : Changes) where
  pub fits_large : (64 < b.count) ⊎ ((b.count ≤ 64) × (64 < cs.count)) → false ≡ fits b cs
  unfolding fits
  fits_large (inl h) = rw (lt-leb b.count 64 h)
  fits_large (inr h) = rw (le-leb b.count 64 h.0, lt-leb cs.count 64 h.1)

  module _ (few : b.count ≤ 64) (many : cs.count ≤ 64) (w : Bool) (e : w ≡ wait_fits b.wait cs.wait) where
    pub fits_not : w ≡ false → w ≡ fits b cs
    unfolding fits
    fits_not f = f ∙ rw (le-leb b.count 64 few, le-leb cs.count 64 many, ← e, f)

    pub fits_each : w ≡ true → (spoken : List Change) (r : Bool) → spoken ≡ take cs.count cs.list → length cs.list ≡ 64
        → r ≡ changes_fit b.rows b.count spoken (length spoken) → r ≡ fits b cs
    unfolding fits
    fits_each f spoken r s l g =
        let n : length (take cs.count cs.list) ≡ cs.count = length-take-le cs.count cs.list (omega arith) in
        g ∙ rw (s, n, le-leb b.count 64 few, le-leb cs.count 64 many, ← e, f) (taken_fit b.rows b.count cs.list cs.count)

  -- what applying may rely on
  pub fit_count : fits b cs ≡ true → cs.count ≤ 64
  fit_count e = (fits_said b cs e).many

  pub fit_slots : fits b cs ≡ true → (k : ℕ) → k < cs.count → (change_in cs.list k).slot < 64
  fit_slots e k h =
      let f = fits_said b cs e in
      let s = f.slots in
      let l = f.below k h in
      omega arith

  pub laid_taken : fits b cs ≡ true → length cs.list ≡ 64 → (spoken : List Change) (rows : List Row) → spoken ≡ take cs.count cs.list → rows ≡ laid_to b.rows spoken (length spoken)
      → rows ≡ laid_to b.rows cs.list cs.count
  laid_taken e l spoken rows s r =
      let m = fit_count e in
      let n : length (take cs.count cs.list) ≡ cs.count = length-take-le cs.count cs.list (omega arith) in
      r ∙ rw (s, n) (taken_laid b.rows cs.list cs.count cs.count (omega arith))

  pub applied_refused : (f : Bool) → f ≡ fits b cs → f ≡ false → Err R.Unfit ≡ told_board (applied_of b cs)
  unfolding applied_of
  applied_refused f e s = rw (← e, s)

  pub applied_done : (f : Bool) (rows : List Row) (wait : Bool) → f ≡ fits b cs → f ≡ true → rows ≡ laid_to b.rows cs.list cs.count → wait ≡ wait_after b.wait cs.wait
      → Ok (record { rows = rows; count = b.count; wait = wait }) ≡ told_board (applied_of b cs)
  unfolding applied_of with_changes
  applied_done f rows wait e s r w = rw (← e, s, r, w)
