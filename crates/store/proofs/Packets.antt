-- The packet's row as its symbols are put in, one a frame.
use mathlib.Core.Path.{◌≡◌, ◌∙◌}
use mathlib.Core.Logic.{⊎_elim, ◌≢◌}
use mathlib.Core.List.{List}
use Prim.Native.Nat.{ℕ, ◌+◌, ◌<◌}
use native.Mathlib.Omega.{arith}
use lib.ListN.{get_or, length, set}
use Rattle.ground.specs.Truth.{eq_or_ne}
use Rattle.packet.specs.Kinds.{frames}
use Rattle.packet.specs.Symbols.{entry_at, entry_with, symbol_at, symbol_of}
use Rattle.packet.specs.Theorems.Symbols.{length_with, symbol_other, symbol_same, with_parts}
use Rattle.rows.specs.declared.group.Group.{Group}
use Rattle.store.specs.Frames.{byte_at, h4_at, place_in}

-- the symbols of the first k frames are in
pub record Read (kind : ℕ) (g : Group) (port : ℕ) (store : List ℕ) (k : ℕ) (row : List ℕ) : Type 0 where
  pub long : length row ≡ 16
  pub has : (j : ℕ) → j < k → symbol_at kind row j ≡ symbol_of kind (h4_at g port j store)

pub read_none : (kind : ℕ) (g : Group) (port : ℕ) (store row : List ℕ) → length row ≡ 16 → Read kind g port store 0 row
read_none kind g port store row long = record { long = long; has = λ j b. absurd (omega arith) }

-- one more, by way of its place, its H4 and its entry
pub read_more : (kind : ℕ) (g : Group) (port k place h at old new : ℕ) (store row : List ℕ) → k < frames kind → Read kind g port store k row → place ≡ place_in g port k → h ≡ byte_at store (place + g.payload)
    → at ≡ entry_at kind k → old ≡ get_or row at 0 → new ≡ entry_with kind old k h → Read kind g port store (k + 1) (set row at new)
unfolding h4_at
read_more kind g port k place h at old new store row within o p b is_at is-old is-new =
    let here : h ≡ h4_at g port k store = rw (← p) b in
    rw (with_parts kind row k h at old new is_at is-old is-new)
    (record {
      long = length_with kind row k h ∙ o.long;
      has = λ j l.
          ⊎_elim
          (λ (e : j ≡ k). rw (e, ← here) (symbol_same kind row o.long k h within))
          (λ (d : j ≢ k). symbol_other kind row o.long k h within j d ∙ o.has j (omega arith))
          (eq_or_ne j k);
    })
