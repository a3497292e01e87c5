-- Which kinds are known.
use Rattle.std.specs.Prelude.{◌≡◌, ℕ, ◌<◌, Bool, true, false, ◌||◌, ◌==◌, refl}
use Rattle.std.proofs.Common.{arith, ne_eqb}
use Rattle.packet.specs.Kinds.{fixed_kind, known_kind, vc12_kind}

pub h4_known : known_kind 0 ≡ true
unfolding known_kind
h4_known = refl

pub vc12_known : known_kind vc12_kind ≡ true
unfolding known_kind
vc12_known = refl

-- those with H4's clock
pub known_else : (kind : ℕ) → (kind == vc12_kind) ≡ false → known_kind kind ≡ (kind == 0 || kind == fixed_kind)
unfolding known_kind
known_else kind e = rw e (go (kind == 0))
  where
    go : (b : Bool) → (b || false || kind == fixed_kind) ≡ (b || kind == fixed_kind)
    go true = refl
    go false = refl

-- a number that is no byte is no kind
pub unknown : (kind : ℕ) → 255 < kind → known_kind kind ≡ false
unfolding known_kind
unknown kind h = rw (ne_eqb kind 0 (omega arith), ne_eqb kind vc12_kind (omega arith), ne_eqb kind fixed_kind (omega arith)) refl
