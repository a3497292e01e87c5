-- The one way to prove a law of a kind's clock: by its four numbers, of VC-12's and of H4's. They are how many frames an epoch has, how many epochs and how many tags there are, and how many frames of an epoch stand before the count's first.
use Rattle.std.specs.Prelude.{◌≡◌, ℕ, Bool, true, false, cond, ◌==◌, refl}
use Rattle.std.proofs.Common.{eqb-true}
use Rattle.packet.specs.Kinds.{epochs, frames, lead, tags, vc12_kind}

pub by : (P : ℕ → ℕ → ℕ → ℕ → Type 0) → P 32 32 1024 0 → P 16 256 4096 8 → (kind : ℕ) → P (frames kind) (epochs kind) (tags kind) (lead kind)
unfolding frames epochs tags lead
by P vc12 h4 kind = go (kind == vc12_kind)
  where
    go : (b : Bool) → P (cond b 32 16) (cond b 32 256) (cond b 1024 4096) (cond b 0 8)
    go true = vc12
    go false = h4

-- the same of a kind with H4's clock alone
pub h4_clock : (P : ℕ → ℕ → ℕ → ℕ → Type 0) → P 16 256 4096 8 → (kind : ℕ) → (kind == vc12_kind) ≡ false → P (frames kind) (epochs kind) (tags kind) (lead kind)
unfolding frames epochs tags lead
h4_clock P h kind e = rw e h

pub h4_numbers : (kind : ℕ) → (kind == vc12_kind) ≡ false → (frames kind ≡ frames 0) × (tags kind ≡ tags 0)
unfolding frames tags
h4_numbers kind e = rw e (refl, refl)

-- what holds of VC-12 and of each kind with H4's clock holds of every kind
pub by_kind : (P : ℕ → Type 0) → P vc12_kind → ((kind : ℕ) → (kind == vc12_kind) ≡ false → P kind) → (kind : ℕ) → P kind
by_kind P vc12 h4 kind = go (kind == vc12_kind) refl
  where
    go : (b : Bool) → (kind == vc12_kind) ≡ b → P kind
    go true e = rw (eqb-true kind vc12_kind e) vc12
    go false e = h4 kind e
