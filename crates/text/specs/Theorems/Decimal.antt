-- What a number is as text, held against its value and against the text of a byte.
use Rattle.std.specs.Prelude.{◌≡◌, refl, Bool, true, false, cond, List, [], ◌∷◌, ◌++◌, ℕ, zero, suc, ◌+◌, ◌*◌, ◌/◌, ◌%◌, ◌^◌, ◌<◌, eqb, ltb}
use Rattle.std.proofs.Common.{◌∙◌, pow-suc, arith, eqb-true, ltb-false}
use Rattle.ground.specs.Finite.{below, below_at}
pub use Rattle.ground.specs.Finite.{same_bytes_lem}
use Rattle.text.specs.Fields.{digit_of, same_bytes, value_of}
use Rattle.text.specs.Output.{decimal_text, digits_before, number_text}

-- what stands behind the digits
pub before_append : (most n : ℕ) (x y : List ℕ) → digits_before most n (x ++ y) ≡ digits_before most n x ++ y
before_append zero n x y = refl
before_append (suc most) n x y = go (ltb 0 n) (before_append most (n / 10) ((48 + n % 10) ∷ x) y)
  where
    go : (b : Bool) → digits_before most (n / 10) ((48 + n % 10) ∷ (x ++ y)) ≡ digits_before most (n / 10) ((48 + n % 10) ∷ x) ++ y
        → cond b (digits_before most (n / 10) ((48 + n % 10) ∷ (x ++ y))) (x ++ y) ≡ cond b (digits_before most (n / 10) ((48 + n % 10) ∷ x)) x ++ y
    go true e = e
    go false e = refl

digit_test : ℕ → Bool
digit_test d = eqb (digit_of (48 + d)) d

digit_tests : below 10 digit_test ≡ true
unfolding digit_test digit_of
digit_tests = refl

digit_is : (d : ℕ) → d < 10 → digit_of (48 + d) ≡ d
unfolding digit_test
digit_is d h = eqb-true (digit_of (48 + d)) d (below_at 10 digit_test digit_tests d h)

-- the value of the digits, and of what stands behind them
before_value : (most n : ℕ) (text : List ℕ) → n < 10 ^ most → value_of 10 0 (digits_before most n text) ≡ value_of 10 n text
before_value zero n text h = let z : n ≡ 0 = omega arith in rw z
before_value (suc most) n text h =
    let p = pow-suc 10 most in
    let l : n / 10 < 10 ^ most = omega arith in
    go (ltb 0 n) refl (before_value most (n / 10) ((48 + n % 10) ∷ text) l)
  where
    go : (b : Bool) → ltb 0 n ≡ b → value_of 10 0 (digits_before most (n / 10) ((48 + n % 10) ∷ text)) ≡ value_of 10 (n / 10 * 10 + digit_of (48 + n % 10)) text
        → value_of 10 0 (cond b (digits_before most (n / 10) ((48 + n % 10) ∷ text)) text) ≡ value_of 10 n text
    go true e k =
        let d : n % 10 < 10 = omega arith in
        let s : n / 10 * 10 + n % 10 ≡ n = omega arith in
        k ∙ rw (digit_is (n % 10) d, s)
    go false e k = let l = ltb-false 0 n e in let z : n ≡ 0 = omega arith in rw z

-- a number that is written reads back
pub number_value : (n : ℕ) → n < 10 ^ 20 → value_of 10 0 (number_text n) ≡ n
unfolding number_text
number_value n h =
    let p = pow-suc 10 19 in
    let l : n / 10 < 10 ^ 19 = omega arith in
    let d : n % 10 < 10 = omega arith in
    let s : n / 10 * 10 + n % 10 ≡ n = omega arith in
    before_value 19 (n / 10) ((48 + n % 10) ∷ []) l ∙ rw (digit_is (n % 10) d, s)

-- below a thousand it is the text of a byte
text_test : ℕ → Bool
text_test n = same_bytes (number_text n) (decimal_text n)

text_tests : below 1000 text_test ≡ true
unfolding text_test number_text decimal_text
text_tests = refl

pub number_short : (n : ℕ) → n < 1000 → number_text n ≡ decimal_text n
unfolding text_test
number_short n h = same_bytes_lem (number_text n) (decimal_text n) (below_at 1000 text_test text_tests n h)
