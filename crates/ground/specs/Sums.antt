-- Laws of the sum of bits and of polynomials.
use Rattle.std.specs.Prelude.{◌≡◌, refl, Bool, true, false, List, [], ◌∷◌, ◌++◌, ℕ, zero, suc, ◌+◌, ◌*◌, ◌/◌, ◌%◌, ◌^◌, ◌<◌, length, ◌==◌}
use Rattle.std.proofs.Common.{◌∙◌, sym, ap, ap₂, arith}
use Rattle.std.proofs.Math.Nat.{suc_inj}
use Rattle.std.specs.Int.Bits.{bit_xor, differ, xor_step}
use Rattle.std.proofs.lemmas.Nat.{xor_shr}
use Rattle.ground.specs.Bits.{odd, bits, even_odd}
use Rattle.ground.specs.Polynomial.{plus, sum, zeros}

plus_comm : (a b : Bool) → plus a b ≡ plus b a
plus_comm false false = refl
plus_comm false true = refl
plus_comm true false = refl
plus_comm true true = refl

pub plus_assoc : (a b c : Bool) → plus (plus a b) c ≡ plus a (plus b c)
plus_assoc false b c = refl
plus_assoc true false c = refl
plus_assoc true true false = refl
plus_assoc true true true = refl

pub plus_swap : (a b c : Bool) → plus a (plus b c) ≡ plus b (plus a c)
plus_swap false b c = refl
plus_swap true false c = refl
plus_swap true true c = refl

plus_self : (a : Bool) → plus a a ≡ false
plus_self false = refl
plus_self true = refl

pub plus_cross : (a b c d : Bool) → plus (plus a b) (plus c d) ≡ plus (plus a c) (plus b d)
plus_cross false b false d = refl
plus_cross false false true d = refl
plus_cross false true true false = refl
plus_cross false true true true = refl
plus_cross true false false d = refl
plus_cross true true false false = refl
plus_cross true true false true = refl
plus_cross true false true false = refl
plus_cross true false true true = refl
plus_cross true true true false = refl
plus_cross true true true true = refl

pub length_sum : (l m : List Bool) → length l ≡ length m → length (sum l m) ≡ length l
length_sum [] m e = refl
length_sum (a ∷ l) [] e = sym e
length_sum (a ∷ l) (b ∷ m) e = ap suc (length_sum l m (suc_inj e))

pub sum_comm : (l m : List Bool) → sum l m ≡ sum m l
sum_comm [] [] = refl
sum_comm [] (b ∷ m) = refl
sum_comm (a ∷ l) [] = refl
sum_comm (a ∷ l) (b ∷ m) = ap₂ ◌∷◌ (plus_comm a b) (sum_comm l m)

pub sum_cross : (a b c d : List Bool) → sum (sum a b) (sum c d) ≡ sum (sum a c) (sum b d)
sum_cross [] b [] d = refl
sum_cross [] b (z ∷ c) d = refl
sum_cross (x ∷ a) [] [] d = refl
sum_cross (x ∷ a) [] (z ∷ c) [] = refl
sum_cross (x ∷ a) [] (z ∷ c) (w ∷ d) = refl
sum_cross (x ∷ a) (y ∷ b) [] d = refl
sum_cross (x ∷ a) (y ∷ b) (z ∷ c) [] = refl
sum_cross (x ∷ a) (y ∷ b) (z ∷ c) (w ∷ d) = ap₂ ◌∷◌ (plus_cross x y z w) (sum_cross a b c d)

pub sum_self : (l : List Bool) → sum l l ≡ zeros (length l)
sum_self [] = refl
sum_self (a ∷ l) = ap₂ ◌∷◌ (plus_self a) (sum_self l)

pub zeros_sum : (l : List Bool) → sum (zeros (length l)) l ≡ l
zeros_sum [] = refl
zeros_sum (a ∷ l) = ap (λ m. a ∷ m) (zeros_sum l)

pub sum_zeros : (l : List Bool) → sum l (zeros (length l)) ≡ l
sum_zeros l = sum_comm l (zeros (length l)) ∙ zeros_sum l

pub sum_append : (a b c d : List Bool) → length a ≡ length c → sum (a ++ b) (c ++ d) ≡ sum a c ++ sum b d
sum_append [] b [] d e = refl
sum_append [] b (z ∷ c) d e = absurd (omega arith)
sum_append (x ∷ a) b [] d e = absurd (omega arith)
sum_append (x ∷ a) b (z ∷ c) d e = ap (λ l. plus x z ∷ l) (sum_append a b c d (suc_inj e))

pub sum_assoc : (a b c : List Bool) → sum (sum a b) c ≡ sum a (sum b c)
sum_assoc [] b c = refl
sum_assoc (x ∷ a) [] c = refl
sum_assoc (x ∷ a) (y ∷ b) [] = refl
sum_assoc (x ∷ a) (y ∷ b) (z ∷ c) = ap₂ ◌∷◌ (plus_assoc x y z) (sum_assoc a b c)

plus_apart : (a b : Bool) → plus a b ≡ false → a ≡ b
plus_apart false false e = refl
plus_apart false true e = sym e
plus_apart true false e = e
plus_apart true true e = refl

-- where a sum is 0, the two are one
pub sum_apart : (l m : List Bool) → length l ≡ length m → sum l m ≡ zeros (length l) → l ≡ m
sum_apart [] [] e z = refl
sum_apart [] (b ∷ m) e z = absurd (omega arith)
sum_apart (a ∷ l) [] e z = absurd (omega arith)
sum_apart (a ∷ l) (b ∷ m) e z = ap₂ ◌∷◌ (plus_apart a b (cc)) (sum_apart l m (suc_inj e) (cc))

odd_xor : (a b : ℕ) → odd (bit_xor a b) ≡ plus (odd a) (odd b)
odd_xor a b = ap odd (xor_step a b) ∙ go (a % 2) (b % 2) (omega arith) (omega arith)
  where
    go : (x y : ℕ) → x < 2 → y < 2 → odd (bit_xor (a / 2) (b / 2) * 2 + differ x y) ≡ plus (x == 1) (y == 1)
    go zero zero hx hy = even_odd (bit_xor (a / 2) (b / 2)) 0
    go zero (suc zero) hx hy = even_odd (bit_xor (a / 2) (b / 2)) 1
    go (suc zero) zero hx hy = even_odd (bit_xor (a / 2) (b / 2)) 1
    go (suc zero) (suc zero) hx hy = even_odd (bit_xor (a / 2) (b / 2)) 0
    go zero (suc (suc y)) hx hy = absurd (omega arith)
    go (suc zero) (suc (suc y)) hx hy = absurd (omega arith)
    go (suc (suc x)) y hx hy = absurd (omega arith)

-- `^` on numbers is the sum of their bits
pub bits_xor : (k a b : ℕ) → bits k (bit_xor a b) ≡ sum (bits k a) (bits k b)
bits_xor zero a b = refl
bits_xor (suc k) a b = ap₂ ◌∷◌ (ap odd (xor_shr a b k) ∙ odd_xor (a / 2 ^ k) (b / 2 ^ k)) (bits_xor k a b)
