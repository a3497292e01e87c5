-- The spread of a set is the least number that no two of its delays differ by more than.
use Rattle.std.specs.Prelude.{refl, Bool, true, ◌&&◌, List, ℕ, zero, suc, ◌-◌, ◌≤◌, ◌<◌, ltb, length}
use Rattle.std.proofs.Common.{arith}
use Rattle.ground.specs.Counting.Laws.Numbers.{greatest_above}
use Rattle.ground.specs.Counting.Words.{greatest}
use Rattle.ground.specs.Truth.{cond_by}
use Rattle.paths.specs.Paths.{InSpread, delay_at, path_at, spread_of}

greatest_le : (n : ℕ) (f : ℕ → Bool) (m : ℕ → ℕ) (s : ℕ) → ((k : ℕ) → k < n → m k ≤ s) → greatest n f m ≤ s
greatest_le zero f m s h = omega arith
greatest_le (suc n) f m s h =
    let older = greatest_le n f m s (λ k b. h k (omega arith)) in
    cond_by (λ g. g ≤ s) (f n && ltb (greatest n f m) (m n)) (m n) (greatest n f m) (λ e. h n (omega arith)) (λ e. older)

module _ (delays set : List ℕ) where
  abbrev above : ℕ → ℕ → ℕ
  above a b = delay_at delays (path_at set a) - delay_at delays (path_at set b)

  pub within_spread : InSpread delays (spread_of delays set) set
  within_spread a b ha hb =
      let inner : above a b ≤ greatest (length set) (λ j. true) (λ j. above a j) =
      greatest_above (length set) (λ j. true) (λ j. above a j) b hb refl in
      let outer : greatest (length set) (λ j. true) (λ j. above a j) ≤ spread_of delays set =
      greatest_above (length set) (λ i. true) (λ i. greatest (length set) (λ j. true) (λ j. above i j)) a ha refl in
      omega arith

  pub spread_least : (s : ℕ) → InSpread delays s set → spread_of delays set ≤ s
  spread_least s w =
      greatest_le (length set) (λ i. true) (λ i. greatest (length set) (λ j. true) (λ j. above i j)) s
      (λ i hi. greatest_le (length set) (λ j. true) (λ j. above i j) s (λ j hj. let l = w i j hi hj in omega arith))
