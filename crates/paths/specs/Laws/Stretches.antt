-- The tightest of some stretches is one of them, and none of them is tighter.
use Rattle.std.specs.Prelude.{◌≡◌, refl, ◌≢◌, List, ℕ, zero, suc, ◌+◌, ◌-◌, ◌≤◌, ◌<◌, ltb, get_or}
use Rattle.std.proofs.Common.{⊎_elim, not-suc-le-zero, arith, ltb-true, ltb-false}
use Rattle.ground.specs.Truth.{cond_by, eq_or_ne}
use Rattle.paths.specs.declared.planning.Stretch.{Stretch}
use Rattle.paths.specs.Planning.{stretch_from, tightest}

module _ (sorted : List ℕ) (far : ℕ) where
  abbrev from : ℕ → Stretch
  from s = stretch_from sorted far s

  abbrev best : ℕ → Stretch
  best m = tightest sorted far m

  abbrev One : ℕ → Stretch → Type 0
  One m t = (t.first ≤ m) × (t.spread ≡ (from t.first).spread)

  tightest_one : (m : ℕ) → One (m - 1) (best m)
  tightest_one zero = (omega arith, refl)
  tightest_one (suc m) =
      let older = tightest_one m in
      cond_by (One (suc m - 1)) (ltb (from m).spread (best m).spread) (from m) (best m) (λ e. (omega arith, refl))
      (λ e. (let l = older.0 in omega arith, older.1))

  pub tightest_first : (m : ℕ) → 0 < m → (best m).first < m
  tightest_first m h = let l = (tightest_one m).0 in omega arith

  pub tightest_spread : (m : ℕ) → (best m).spread ≡ get_or sorted ((best m).first + far) 0 - get_or sorted (best m).first 0
  tightest_spread m = (tightest_one m).1

  pub tightest_least : (m s : ℕ) → s < m → (best m).spread ≤ (from s).spread
  tightest_least zero s h = absurd (not-suc-le-zero h)
  tightest_least (suc m) s h =
      let older = tightest_least m s in
      cond_by (λ t. t.spread ≤ (from s).spread) (ltb (from m).spread (best m).spread) (from m) (best m)
      (λ e.
      let l = ltb-true (from m).spread (best m).spread e in
      ⊎_elim (λ (g : s ≡ m). rw g (omega arith)) (λ (g : s ≢ m). let o = older (omega arith) in omega arith) (eq_or_ne s m))
      (λ e.
      let l = ltb-false (from m).spread (best m).spread e in
      ⊎_elim (λ (g : s ≡ m). rw g l) (λ (g : s ≢ m). older (omega arith)) (eq_or_ne s m))
