-- Each byte of a group frame by its rank and its place in the member.
use Rattle.std.specs.Prelude.{◌≡◌, ℕ, ◌+◌, ◌*◌, ◌/◌, ◌%◌, ◌<◌}
use Rattle.std.proofs.Common.{⊎_elim, mod-lt, div-add-mod', div-lt_iff_lt-mul, mul_comm, zero-mul, eq-zero-or-pos, arith}

pub record Ranked (X P p : ℕ) : Type 0 where
  pub rank : p % X < X
  pub byte : p / X < P
  pub whole : p / X * X + p % X ≡ p

pub ranked : (X P p : ℕ) → p < X * P → Ranked X P p
ranked X P p h =
    ⊎_elim (λ (z : X ≡ 0). absurd (let n : X * P ≡ 0 = rw (z, zero-mul) in omega arith))
    (λ (g : 0 < X). record { rank = mod-lt p g; byte = (div-lt_iff_lt-mul g).1 (rw (mul_comm X P) at h); whole = div-add-mod' p X }) (eq-zero-or-pos X)
