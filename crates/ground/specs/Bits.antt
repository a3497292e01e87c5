-- Numbers and their bits, the first bit the highest.
use Rattle.std.specs.Prelude.{◌≡◌, refl, Bool, true, false, List, [], ◌∷◌, ◌++◌, ℕ, zero, suc, ◌+◌, ◌-◌, ◌*◌, ◌/◌, ◌%◌, ◌^◌, ◌<◌, length, get_or, take, drop, if◌then◌else◌, ◌==◌}
use Rattle.std.proofs.Common.{◌∙◌, sym, ap, ap₂, zero-add, add_comm, add-mul, add-suc, suc-add, mul_assoc, two-mul, one-add, arith, pow_pos, pow-add, shr-shr, take_at, drop_at, length-append}
use Rattle.std.proofs.Math.Nat.{mod-one, mul-add-div_right, two-pow-succ}
use Rattle.std.proofs.lemmas.Nat.{mod-pow-add}
use Rattle.std.proofs.Math.Pow.{high, split}

abbrev pub odd : ℕ → Bool
odd n = n % 2 == 1

-- the lowest k bits of n
abbrev pub bits : ℕ → ℕ → List Bool
bits zero n = []
bits (suc k) n = odd (n / 2 ^ k) ∷ bits k n

-- the number that the bits spell
abbrev pub number : List Bool → ℕ
number [] = 0
number (b ∷ l) = (if b then 1 else 0) * 2 ^ length l + number l

pub length_bits : (k n : ℕ) → length (bits k n) ≡ k
length_bits zero n = refl
length_bits (suc k) n = rw (length_bits k n)

pub bit_number : (n : ℕ) → (if odd n then 1 else 0) ≡ n % 2
bit_number n = go (n % 2) refl
  where
    go : (m : ℕ) → n % 2 ≡ m → (if m == 1 then 1 else 0) ≡ m
    go zero e = refl
    go (suc zero) e = refl
    go (suc (suc m)) e = absurd (omega arith)

pub number_bits : (k n : ℕ) → number (bits k n) ≡ n % 2 ^ k
number_bits zero n = sym (mod-one n)
number_bits (suc k) n =
    rw (length_bits k n, bit_number (n / 2 ^ k), number_bits k n, ← one-add k) (sym (mod-pow-add n 1 k))

pub number_lt : (l : List Bool) → number l < 2 ^ length l
number_lt [] = omega arith
number_lt (true ∷ l) = let h = number_lt l in rw (two-pow-succ (length l)) (omega arith)
number_lt (false ∷ l) = let h = number_lt l in rw (two-pow-succ (length l)) (omega arith)

-- what stands above the lowest j bits does not show in them
pub even_odd : (z y : ℕ) → odd (z * 2 + y) ≡ odd y
even_odd z y = let e : (z * 2 + y) % 2 ≡ y % 2 = omega arith in rw e

split_power : (c m j : ℕ) → c * 2 ^ (m + suc j) ≡ c * 2 ^ m * 2 * 2 ^ j
split_power c m j = rw (pow-add 2 m (suc j), two-pow-succ j, mul_assoc c (2 ^ m) 2, mul_assoc c (2 ^ m * 2) (2 ^ j), mul_assoc (2 ^ m) 2 (2 ^ j), two-mul (2 ^ j))

pub bits_above : (j m c r : ℕ) → bits j (c * 2 ^ (m + j) + r) ≡ bits j r
bits_above zero m c r = refl
bits_above (suc j) m c r =
    ap₂ ◌∷◌
    (ap (λ (n : ℕ). odd ((n + r) / 2 ^ j)) (split_power c m j)
    ∙ ap odd (mul-add-div_right (pow_pos j) (c * 2 ^ m * 2) r)
    ∙ even_odd (c * 2 ^ m) (r / 2 ^ j))
    (ap (λ (n : ℕ). bits j (c * 2 ^ n + r)) (add-suc m j ∙ sym (suc-add m j)) ∙ bits_above j (suc m) c r)

pub bits_number : (l : List Bool) → bits (length l) (number l) ≡ l
bits_number [] = refl
bits_number (b ∷ l) =
    ap₂ ◌∷◌
    (ap odd (high (if b then 1 else 0) (length l) (number_lt l)) ∙ odd_bit b)
    (ap (λ (n : ℕ). bits (length l) ((if b then 1 else 0) * 2 ^ n + number l)) (sym (zero-add (length l)))
    ∙ bits_above (length l) 0 (if b then 1 else 0) (number l)
    ∙ bits_number l)
  where
    odd_bit : (a : Bool) → odd (if a then 1 else 0) ≡ a
    odd_bit true = refl
    odd_bit false = refl

-- the bits of a number are its higher bits and then its lowest k
pub bits_split : (j k n : ℕ) → bits (j + k) n ≡ bits j (n / 2 ^ k) ++ bits k n
bits_split zero k n = rw (zero-add k)
bits_split (suc j) k n =
    ap (λ (m : ℕ). bits m n) (suc-add j k)
    ∙ ap₂ ◌∷◌ (ap odd (ap (λ (m : ℕ). n / 2 ^ m) (add_comm j k) ∙ sym (shr-shr n k j))) (bits_split j k n)

pub bits_mod : (k n : ℕ) → bits k (n % 2 ^ k) ≡ bits k n
bits_mod k n =
    sym (bits_above k 0 (n / 2 ^ k) (n % 2 ^ k))
    ∙ ap (λ (m : ℕ). bits k (n / 2 ^ k * 2 ^ m + n % 2 ^ k)) (zero-add k)
    ∙ ap (λ (m : ℕ). bits k m) (split n k)

-- two numbers as one, the second in its lowest k bits
pub bits_join : (j k hi lo : ℕ) → lo < 2 ^ k → bits (j + k) (hi * 2 ^ k + lo) ≡ bits j hi ++ bits k lo
bits_join j k hi lo h =
    bits_split j k (hi * 2 ^ k + lo)
    ∙ ap₂ ◌++◌ (ap (λ (m : ℕ). bits j m) (high hi k h)) (ap (λ (m : ℕ). bits k (hi * 2 ^ m + lo)) (sym (zero-add k)) ∙ bits_above k 0 hi lo)

-- one bit of a number
pub get_or_bits : (k j n : ℕ) → j < k → get_or (bits k n) j false ≡ odd (n / 2 ^ (k - 1 - j))
get_or_bits zero j n h = absurd (omega arith)
get_or_bits (suc k) zero n h = let e : suc k - 1 - 0 ≡ k = omega arith in rw e
get_or_bits (suc k) (suc j) n h = let e : suc k - 1 - suc j ≡ k - 1 - j = omega arith in rw e (get_or_bits k j n (omega arith))

-- a part of its bits as a number
pub bits_part : (a w c n : ℕ) → number (take w (drop a (bits (a + (w + c)) n))) ≡ n / 2 ^ c % 2 ^ w
bits_part a w c n =
    ap (λ (l : List Bool). number (take w (drop a l))) (bits_split a (w + c) n)
    ∙ ap (λ (l : List Bool). number (take w l)) (drop_at (bits a (n / 2 ^ (w + c))) (bits (w + c) n) a (length_bits a (n / 2 ^ (w + c))))
    ∙ ap (λ (l : List Bool). number (take w l)) (bits_split w c n)
    ∙ ap number (take_at (bits w (n / 2 ^ c)) (bits c n) w (length_bits w (n / 2 ^ c)))
    ∙ number_bits w (n / 2 ^ c)

-- bits behind others, and one more behind them
pub number_append : (l m : List Bool) → number (l ++ m) ≡ number l * 2 ^ length m + number m
number_append [] m = omega arith
number_append (a ∷ l) m =
    rw (length-append l m, pow-add 2 (length l) (length m), number_append l m) (more (if a then 1 else 0) (2 ^ length l) (2 ^ length m) (number l) (number m))
  where
    more : (x p q n k : ℕ) → x * (p * q) + (n * q + k) ≡ (x * p + n) * q + k
    more x p q n k = rw (add-mul (x * p) n q, mul_assoc x p q) (omega arith)

pub number_more : (l : List Bool) (b : Bool) → number (l ++ (b ∷ [])) ≡ number l * 2 + (if b then 1 else 0)
number_more l b = number_append l (b ∷ []) ∙ (omega arith)
