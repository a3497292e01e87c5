-- A flag byte, set or not.
use Rattle.std.specs.Prelude.{◌≡◌, refl, ◌≢◌, ◌⊎◌, Bool, true, false, cond, ℕ, ◌≤◌, eqb}
use Rattle.std.proofs.Common.{inl, inr, arith}
use Rattle.std.proofs.lemmas.Bool.{false≢true, eqb-false, not-true}
use Rattle.step.specs.Arrival.{flag_of}

pub flag_on : (b : ℕ) → flag_of b ≡ true → b ≢ 0
flag_on b e = eqb-false b 0 (not-true (eqb b 0) e)

pub off_flag : (b : ℕ) → b ≡ 0 → flag_of b ≡ false
off_flag b e = rw e

pub flag_le : (b : Bool) → cond b 1 0 ≤ 1
flag_le true = omega arith
flag_le false = omega arith

pub never : {A : Type 0} → false ≡ true → A
never e = absurd (false≢true e)

-- a test, true or false
pub true_or_false : (b : Bool) → (b ≡ true) ⊎ (b ≡ false)
true_or_false true = inl refl
true_or_false false = inr refl
