-- Facts about finitely many cases, each by one test that the checker computes and one law that carries it to every case.
use Rattle.std.specs.Prelude.{◌≡◌, refl, Bool, true, false, ◌&&◌, List, [], ◌∷◌, ℕ, zero, suc, ◌<◌, length, ◌==◌}
use Rattle.std.proofs.Common.{sym, ap₂, not-suc-le-zero, arith, eqb-true}
use Rattle.std.specs.Bool.{beq}
use Rattle.std.proofs.lemmas.Bool.{false≢true}
use Rattle.std.proofs.Math.Decide.{ℕ_discrete}
use Rattle.ground.specs.Truth.{and_left, and_right}

-- the test f passes at every number below n
abbrev pub below : ℕ → (ℕ → Bool) → Bool
below zero f = true
below (suc n) f = f n && below n f

pub below_at : (n : ℕ) (f : ℕ → Bool) → below n f ≡ true → (k : ℕ) → k < n → f k ≡ true
below_at zero f t k h = absurd (not-suc-le-zero h)
below_at (suc n) f t k h = go (ℕ_discrete k n) (below_at n f (and_right (f n) (below n f) t) k)
  where
    go : Dec (k ≡ n) → (k < n → f k ≡ true) → f k ≡ true
    go (yes e) rest = rw e (and_left (f n) (below n f) t)
    go (no d) rest = rest (omega arith)

-- the test f passes at every list of n bits
abbrev pub lists : ℕ → (List Bool → Bool) → Bool
lists zero f = f []
lists (suc n) f = lists n (λ l. f (false ∷ l)) && lists n (λ l. f (true ∷ l))

pub lists_at : (n : ℕ) (f : List Bool → Bool) → lists n f ≡ true → (l : List Bool) → length l ≡ n → f l ≡ true
lists_at zero f t [] e = t
lists_at zero f t (b ∷ l) e = absurd (omega arith)
lists_at (suc n) f t [] e = absurd (omega arith)
lists_at (suc n) f t (false ∷ l) e =
    lists_at n (λ m. f (false ∷ m)) (and_left (lists n (λ m. f (false ∷ m))) (lists n (λ m. f (true ∷ m))) t) l (omega arith)
lists_at (suc n) f t (true ∷ l) e =
    lists_at n (λ m. f (true ∷ m)) (and_right (lists n (λ m. f (false ∷ m))) (lists n (λ m. f (true ∷ m))) t) l (omega arith)

-- two lists of bits compared by a test
abbrev pub same_bits : List Bool → List Bool → Bool
same_bits [] [] = true
same_bits [] (b ∷ m) = false
same_bits (a ∷ l) [] = false
same_bits (a ∷ l) (b ∷ m) = beq a b && same_bits l m

pub same_bit : (a b : Bool) → beq a b ≡ true → a ≡ b
same_bit true true t = refl
same_bit true false t = sym t
same_bit false true t = t
same_bit false false t = refl

pub same_bits_lem : (l m : List Bool) → same_bits l m ≡ true → l ≡ m
same_bits_lem [] [] t = refl
same_bits_lem [] (b ∷ m) t = absurd (false≢true t)
same_bits_lem (a ∷ l) [] t = absurd (false≢true t)
same_bits_lem (a ∷ l) (b ∷ m) t =
    ap₂ ◌∷◌ (same_bit a b (and_left (beq a b) (same_bits l m) t)) (same_bits_lem l m (and_right (beq a b) (same_bits l m) t))

pub bits_same : (l : List Bool) → same_bits l l ≡ true
bits_same [] = refl
bits_same (true ∷ l) = bits_same l
bits_same (false ∷ l) = bits_same l

-- two lists of bytes compared by a test
abbrev pub same_bytes : List ℕ → List ℕ → Bool
same_bytes [] [] = true
same_bytes [] (b ∷ m) = false
same_bytes (a ∷ l) [] = false
same_bytes (a ∷ l) (b ∷ m) = a == b && same_bytes l m

pub same_bytes_lem : (l m : List ℕ) → same_bytes l m ≡ true → l ≡ m
same_bytes_lem [] [] t = refl
same_bytes_lem [] (b ∷ m) t = absurd (false≢true t)
same_bytes_lem (a ∷ l) [] t = absurd (false≢true t)
same_bytes_lem (a ∷ l) (b ∷ m) t =
    ap₂ ◌∷◌ (eqb-true a b (and_left (a == b) (same_bytes l m) t)) (same_bytes_lem l m (and_right (a == b) (same_bytes l m) t))
