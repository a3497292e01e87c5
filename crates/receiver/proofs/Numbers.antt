-- Products of a count, an epoch's frames or a window, and a payload stay within the machine's words.
use Prim.Native.Nat.{ℕ, ◌*◌, ◌≤◌}
use native.Mathlib.Nat.{mul-le-mul}
use native.Mathlib.Omega.{arith}

pub pair_fits : (a b : ℕ) → a ≤ 255 → b ≤ 65535 → a * b ≤ 16711425
pair_fits a b ha hb = omega (arith, mul-le-mul ha hb)

-- where a group frame starts in the output
pub place_fits : (k x p : ℕ) → k ≤ 255 → x ≤ 255 → p ≤ 65535 → k * (x * p) ≤ 4261413375
place_fits k x p hk hx hp = omega (arith, mul-le-mul hk (pair_fits x p hx hp))
