-- When MST speaks of a number: within as many epochs as it takes to speak of all, whichever comes first.
use Rattle.std.specs.Prelude.{◌≡◌, ℕ, ◌+◌, ◌-◌, ◌*◌, ◌/◌, ◌%◌, ◌<◌, ◌≤◌, Bool, true, false, ◌≢◌, ◌⊎◌, ◌==◌, refl}
use Rattle.std.proofs.Common.{inl, inr, ⊎_elim, arith}
use Rattle.ground.specs.Truth.{le_or_lt}
use Rattle.packet.specs.Kinds.{epochs, mst_epochs, mst_first, mst_numbers, vc12_kind}
use Rattle.packet.specs.Mst.{Spoken}

pub spoken_or_not : (kind e q : ℕ) → Spoken kind e q ⊎ ((m : ℕ) → m < mst_numbers kind → mst_first kind e + m ≢ q)
spoken_or_not kind e q = ⊎_elim from (λ (h : q < mst_first kind e). inr (λ m l z. omega arith)) (le_or_lt (mst_first kind e) q)
  where
    from : mst_first kind e ≤ q → Spoken kind e q ⊎ ((m : ℕ) → m < mst_numbers kind → mst_first kind e + m ≢ q)
    from h =
        ⊎_elim (λ (t : mst_first kind e + mst_numbers kind ≤ q). inr (λ m l z. omega arith))
        (λ (t : q < mst_first kind e + mst_numbers kind). inl (record { place = q - mst_first kind e; below = omega arith; is = omega arith }))
        (le_or_lt (mst_first kind e + mst_numbers kind) q)

-- of so many epochs in a row, the first of which has number x, one speaks of q
pub record SpokenSoon (kind x q : ℕ) : Type 0 where
  pub after : ℕ
  pub soon : after < mst_epochs kind
  pub spoken : Spoken kind ((x + after) % epochs kind) q

pub spoken_soon : (kind x q : ℕ) → q < 64 → SpokenSoon kind x q
unfolding mst_first mst_numbers mst_epochs epochs
spoken_soon kind x q low = go (kind == vc12_kind) refl
  where
    go : (b : Bool) → (kind == vc12_kind) ≡ b → SpokenSoon kind x q
    go true e = record { after = (q / 8 + 7 * x) % 8; soon = rw e (omega arith); spoken = record { place = q % 8; below = omega arith; is = rw e (omega arith) } }
    go false e = record { after = (q / 8 + 31 * x) % 32; soon = rw e (omega arith); spoken = record { place = q % 8; below = omega arith; is = rw e (omega arith) } }
