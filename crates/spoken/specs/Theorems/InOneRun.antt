-- 'each changed slot in one run and no other'
use Rattle.std.specs.Prelude.{◌≡◌, refl, ◌≢◌, Bool, ◌&&◌, List, [], ◌∷◌, ◌++◌, eqb, length}
use Rattle.std.proofs.Common.{sym, ◌∙◌, arith}
use Rattle.std.proofs.Math.Path.{ap}
use Rattle.std.proofs.Math.Logic.{⊎_elim}
use Rattle.std.proofs.Math.Bool.{cond}
use Prim.Native.Nat.{ℕ, zero, suc, ◌+◌, ◌-◌, ◌≤◌, ◌<◌}
use Rattle.std.proofs.Math.Dec.{leb, ltb}
use borrow.Author.Tests.{eq-eqb, le-leb, le-ltb, lt-leb, lt-ltb, ne_eqb}
use Rattle.ground.specs.Table.{tabulate}
use Rattle.ground.specs.Truth.{cond_by, eq_or_ne, le_or_lt}
use Rattle.ground.specs.Counting.Words.{count}
use Rattle.sender.specs.declared.board.Row.{Row}
use Rattle.spoken.specs.Said.{runs_with, tells_of}
use Rattle.spoken.specs.declared.lists.Change.{Change}
use Rattle.spoken.specs.declared.runs.Run.{Run}
use Rattle.spoken.specs.Changes.{changed, spoken_to}
use Rattle.spoken.specs.Laws.Rising.{slot_in}
use Rattle.spoken.specs.Laws.Runs.{Whole, whole_longer, whole_single}
use Rattle.spoken.specs.Laws.Spoken.{spoken_times}
use Rattle.spoken.specs.Runs.{continues, in_run, longer, runs_from, runs_of, single, spread, spread_run}
use Rattle.spoken.specs.Theorems.Runs.{spread_back}

module _ (slot : ℕ) where
  -- how many changes of a list are of the slot
  abbrev changes_with : List Change → ℕ
  changes_with [] = 0
  changes_with (c ∷ l) = cond (eqb c.slot slot) 1 0 + changes_with l

  with_append : (l m : List Change) → changes_with (l ++ m) ≡ changes_with l + changes_with m
  with_append [] m = omega arith
  with_append (c ∷ l) m = let e = with_append l m in omega arith

  -- of changes whose slots follow each other
  in_row : (n s : ℕ) (f : ℕ → Change) → ((k : ℕ) → k < n → (f k).slot ≡ s + k) → changes_with (tabulate n f) ≡ cond (leb s slot && ltb slot (s + n)) 1 0
  in_row zero s f h =
      ⊎_elim (λ (g : s ≤ slot). rw (le-leb s slot g, le-ltb slot (s + 0) (omega arith)) refl) (λ (g : slot < s). rw (lt-leb s slot g) refl) (le_or_lt s slot)
  in_row (suc n) s f h =
      let z : (f 0).slot ≡ s = h 0 (omega arith) ∙ (omega arith) in
      let t = in_row n (suc s) (λ k. f (suc k)) (λ k b. h (suc k) (omega arith) ∙ (omega arith)) in
      let m : suc s + n ≡ s + suc n = omega arith in
      ap (λ (x : ℕ). cond (eqb (f 0).slot slot) 1 0 + x) (t ∙ ap (λ (x : ℕ). cond (leb (suc s) slot && ltb slot x) 1 0) m)
      ∙ ap (λ (x : ℕ). cond (eqb x slot) 1 0 + cond (leb (suc s) slot && ltb slot (s + suc n)) 1 0) z
      ∙ ⊎_elim
      (λ (g : s ≡ slot). rw (eq-eqb s slot g, lt-leb (suc s) slot (omega arith), le-leb s slot (omega arith), lt-ltb slot (s + suc n) (omega arith)) refl)
      (λ (g : s ≢ slot).
      ⊎_elim (λ (b : s ≤ slot). rw (ne_eqb s slot g, le-leb (suc s) slot (omega arith), le-leb s slot b) (omega arith))
      (λ (b : slot < s). rw (ne_eqb s slot g, lt-leb (suc s) slot (omega arith), lt-leb s slot b) refl)
      (le_or_lt s slot))
      (eq_or_ne s slot)

  in_run_lem : (run : Run) → Whole run → changes_with (spread_run run) ≡ cond (tells_of run slot) 1 0
  unfolding spread_run
  in_run_lem run w =
      in_row (suc (run.last.slot - run.first.slot)) run.first.slot (in_run run) (λ k b. refl)
      ∙ ap (λ (b : Bool). cond (leb run.first.slot slot && b) 1 0) ends
    where
      ends : ltb slot (run.first.slot + suc (run.last.slot - run.first.slot)) ≡ leb slot run.last.slot
      ends =
          let r = w.rising in
          ⊎_elim (λ (g : slot ≤ run.last.slot). rw (lt-ltb slot (run.first.slot + suc (run.last.slot - run.first.slot)) (omega arith), le-leb slot run.last.slot g) refl)
          (λ (g : run.last.slot < slot). rw (le-ltb slot (run.first.slot + suc (run.last.slot - run.first.slot)) (omega arith), lt-leb slot run.last.slot g) refl)
          (le_or_lt slot run.last.slot)

  from_with : (run : Run) (rest : List Change) → Whole run → runs_with slot (runs_from run rest) ≡ changes_with (spread (runs_from run rest))
  from_with run [] w = ap (λ (n : ℕ). n + 0) (sym (in_run_lem run w)) ∙ sym (with_append (spread_run run) [])
  from_with run (next ∷ rest) w =
      cond_by (λ (runs : List Run). runs_with slot runs ≡ changes_with (spread runs)) (continues run next) (runs_from (longer run next) rest) (run ∷ runs_from (single next) rest)
      (λ e. from_with (longer run next) rest (whole_longer run next w e))
      (λ e.
      ap (λ (n : ℕ). n + runs_with slot (runs_from (single next) rest)) (sym (in_run_lem run w))
      ∙ ap (λ (n : ℕ). changes_with (spread_run run) + n) (from_with (single next) rest (whole_single next))
      ∙ sym (with_append (spread_run run) (spread (runs_from (single next) rest))))

  runs_with_lem : (list : List Change) → runs_with slot (runs_of list) ≡ changes_with (spread (runs_of list))
  runs_with_lem [] = refl
  runs_with_lem (change ∷ rest) = from_with (single change) rest (whole_single change)

  -- the same counted by places
  count_first : (n : ℕ) (f : ℕ → Bool) → count (suc n) f ≡ cond (f 0) 1 0 + count n (λ k. f (suc k))
  count_first zero f = omega arith
  count_first (suc n) f = let e = count_first n f in omega arith

  by_places : (l : List Change) → changes_with l ≡ count (length l) (λ k. eqb (slot_in l k) slot)
  by_places [] = refl
  by_places (c ∷ l) =
      ap (λ (n : ℕ). cond (eqb c.slot slot) 1 0 + n) (by_places l)
      ∙ sym (count_first (length l) (λ k. eqb (slot_in (c ∷ l) k) slot))

  -- Of the changes from one board to another: a slot is in one run if it has changed, and else in none.
  pub in_one_run : (old new : List Row) (n : ℕ) → runs_with slot (runs_of (spoken_to old new n)) ≡ cond (ltb slot n && changed old new slot) 1 0
  in_one_run old new n =
      runs_with_lem (spoken_to old new n)
      ∙ ap changes_with (spread_back (spoken_to old new n))
      ∙ by_places (spoken_to old new n)
      ∙ spoken_times old new slot n
