-- The lowest port to which a clause applies.
use mathlib.Core.Path.{◌≡◌, refl}
use mathlib.Core.Bool.{true, false}
use mathlib.Core.List.{List}
use Prim.Native.Nat.{ℕ, ◌<◌}
use Rattle.ground.specs.Counting.Laws.Tests.{some_at}
use Rattle.ground.specs.Counting.Words.{some}
use Rattle.judge.specs.declared.seen.Seen.{Seen}
use Rattle.judge.specs.Cause.{applies, blamed_by}
use Rattle.judge.specs.Laws.Lowest.{lowest_first}
use Rattle.judge.specs.Verdict.{highest}

module _ (ports : List Seen) (n cause top : ℕ) (e : top ≡ highest ports n) where
  pub blamed_first : (i : ℕ) → i < n → some i (applies ports top cause) ≡ false → applies ports top cause i ≡ true → i ≡ blamed_by ports n cause
  unfolding blamed_by
  blamed_first i b none t = rw (← e, some_at n (applies ports top cause) i b t, lowest_first n (applies ports top cause) i b none t) refl

  pub blamed_none : some n (applies ports top cause) ≡ false → ◌≡◌ {A = ℕ} 255 (blamed_by ports n cause)
  unfolding blamed_by
  blamed_none none = rw (← e, none) refl
