-- The owner row after a store.
use mathlib.Core.Path.{◌≡◌, ◌∙◌}
use mathlib.Core.Logic.{⊎_elim, ◌≢◌}
use mathlib.Core.Bool.{cond}
use mathlib.Core.List.{List}
use Prim.Native.Nat.{ℕ, ◌<◌}
use native.Mathlib.Omega.{arith}
use lib.Dec.{eqb}
use lib.ListN.{length, get_or, set, length-set}
use lib.Seq.{get_or-set_same, get_or-set_other}
use borrow.Author.Tests.{eq-eqb, ne_eqb}
use Rattle.ground.specs.Table.{tabulate_is}
use Rattle.ground.specs.Truth.{eq_or_ne}
use Rattle.cards.specs.Owners.{owner_in, with_owner}

pub row_with : (row : List ℕ) (i m : ℕ) → length row ≡ 64 → i < 64 → set row i m ≡ with_owner row i m
unfolding with_owner
row_with row i m l h = tabulate_is (set row i m) 64 (λ j. cond (eqb j i) m (owner_in row j)) 0 (length-set row i m ∙ l) at
  where
    at : (j : ℕ) → j < 64 → get_or (set row i m) j 0 ≡ cond (eqb j i) m (owner_in row j)
    at j b =
        ⊎_elim (λ (e : j ≡ i). rw (eq-eqb j i e, e) (get_or-set_same row i m 0 (omega arith)))
        (λ (n : j ≢ i). rw (ne_eqb j i n) (get_or-set_other row i j m 0 n)) (eq_or_ne j i)
