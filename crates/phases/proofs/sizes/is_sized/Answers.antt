use mathlib.Core.Path.{◌≡◌, refl}
use mathlib.Core.Bool.{Bool, true, false, cond, ◌||◌}
use Prim.Native.Nat.{ℕ}
use lib.Dec.{eqb}
use Rattle.packet.specs.Kinds.{fixed_kind, vc12_kind}
use Rattle.packet.specs.Laws.Clock.{by_kind, h4_numbers}
use Rattle.packet.specs.Laws.Known.{known_else, vc12_known}
use Rattle.phases.specs.Sizes.{sized, sized_as}
use Rattle.phases.proofs.sizes.is_sized.Goals as goal

-- H4's numbers are those of every known kind but VC-12
sized-by : (kind count P W : ℕ) → cond (sized_as (eqb kind 0 || eqb kind fixed_kind) 0 count P W) true (sized_as (eqb kind vc12_kind) vc12_kind count P W) ≡ sized kind count P W
unfolding sized
sized-by kind count P W =
    by_kind (λ k. cond (sized_as (eqb k 0 || eqb k fixed_kind) 0 count P W) true (sized_as (eqb k vc12_kind) vc12_kind count P W) ≡ sized k count P W) (rw vc12_known refl)
    (λ k h4. let same = h4_numbers k h4 in rw (h4, known_else k h4, same.0, same.1) (kept (sized_as (eqb k 0 || eqb k fixed_kind) 0 count P W))) kind
  where
    kept : (b : Bool) → cond b true false ≡ b
    kept true = refl
    kept false = refl

pub returns-then-is_sized_as : goal.returns-then-is_sized_as
returns-then-is_sized_as c = rw (← sized-by _ _ _ _, ← c.is_sized_as.ensures, c.if-is_sized_as.true) refl

pub returns : goal.returns
returns c = rw (← sized-by _ _ _ _, ← c.is_sized_as.ensures, c.if-is_sized_as.false) c.is_sized_as-2.ensures
