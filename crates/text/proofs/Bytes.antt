-- Bytes by their hex digits.
use mathlib.Core.Path.{◌≡◌, refl, ap}
use mathlib.Core.List.{List, [], ◌∷◌}
use Prim.Native.Nat.{ℕ, zero, suc, ◌+◌, ◌*◌, ◌<◌}
use native.Mathlib.Omega.{arith}
use lib.ListN.{length, get_or}
use Rattle.text.specs.Fields.{bytes_of, digit_of}

pub length_bytes : (n : ℕ) (l : List ℕ) → length l ≡ 2 * n → length (bytes_of l) ≡ n
length_bytes zero [] h = refl
length_bytes zero (a ∷ l) h = absurd (omega arith)
length_bytes (suc n) [] h = absurd (omega arith)
length_bytes (suc n) (a ∷ []) h = absurd (omega arith)
length_bytes (suc n) (a ∷ b ∷ l) h = ap suc (length_bytes n l (omega arith))

pub get_or_bytes : (l : List ℕ) (i : ℕ) → 2 * i + 1 < length l → get_or (bytes_of l) i 0 ≡ digit_of (get_or l (2 * i) 0) * 16 + digit_of (get_or l (2 * i + 1) 0)
get_or_bytes [] i h = absurd (omega arith)
get_or_bytes (a ∷ []) i h = absurd (omega arith)
get_or_bytes (a ∷ b ∷ l) zero h = refl
get_or_bytes (a ∷ b ∷ l) (suc i) h =
    let p : 2 * suc i ≡ suc (suc (2 * i)) = omega arith in
    let q : 2 * suc i + 1 ≡ suc (suc (2 * i + 1)) = omega arith in
    rw (q, p) (get_or_bytes l i (omega arith))
