-- The eight bits of a byte: each fact is one test that the checker computes at every byte and every bit.
use Rattle.std.specs.Prelude.{◌≡◌, refl, Bool, true, false, cond, ◌&&◌, ◌||◌, List, [], ◌∷◌, ℕ, ◌+◌, ◌*◌, ◌/◌, ◌%◌, ◌^◌, ◌<◌, eqb, ltb, get_or}
use Rattle.std.specs.Bool.{beq}
use Rattle.std.proofs.Common.{eqb-true, ltb-true}
use Rattle.ground.specs.Bits.{odd}
use Rattle.ground.specs.Finite.{below, below_at, same_bit}

-- the powers of two below 256
abbrev pub powers : List ℕ
powers = 1 ∷ 2 ∷ 4 ∷ 8 ∷ 16 ∷ 32 ∷ 64 ∷ 128 ∷ []

pub power_is : (k : ℕ) → k < 8 → get_or powers k 0 ≡ 2 ^ k
power_is k h = eqb-true (get_or powers k 0) (2 ^ k) (below_at 8 (λ j. eqb (get_or powers j 0) (2 ^ j)) refl k h)

-- a test at every two of the eight bits, and every byte
everywhere : (ℕ → ℕ → ℕ → Bool) → Bool
everywhere f = below 8 (λ k. below 8 (λ m. below 256 (f k m)))

everywhere_at : (f : ℕ → ℕ → ℕ → Bool) → everywhere f ≡ true → (k m b : ℕ) → k < 8 → m < 8 → b < 256 → f k m b ≡ true
unfolding everywhere
everywhere_at f t k m b hk hm hb =
    below_at 256 (f k m) (below_at 8 (λ j. below 256 (f k j)) (below_at 8 (λ i. below 8 (λ j. below 256 (f i j))) t k hk) m hm) b hb

-- where bit k is not set, its power may be added
fits_test : ℕ → ℕ → Bool
fits_test k b = odd (b / 2 ^ k) || ltb (b + 2 ^ k) 256

fits_tests : below 8 (λ k. below 256 (fits_test k)) ≡ true
unfolding fits_test
fits_tests = refl

pub marked_fits : (b k : ℕ) → b < 256 → k < 8 → odd (b / 2 ^ k) ≡ false → b + 2 ^ k < 256
unfolding fits_test
marked_fits b k hb hk e =
    let t : (odd (b / 2 ^ k) || ltb (b + 2 ^ k) 256) ≡ true = below_at 256 (fits_test k) (below_at 8 (λ j. below 256 (fits_test j)) fits_tests k hk) b hb in
    ltb-true (b + 2 ^ k) 256 (rw e at t)

-- bit m of a byte in which bit k is set
marked_test : ℕ → ℕ → ℕ → Bool
marked_test k m b = beq (odd (cond (odd (b / 2 ^ k)) b (b + 2 ^ k) / 2 ^ m)) (odd (b / 2 ^ m) || eqb m k)

marked_tests : everywhere marked_test ≡ true
unfolding everywhere marked_test
marked_tests = refl

pub marked_bit : (b k m : ℕ) → b < 256 → k < 8 → m < 8 → odd (cond (odd (b / 2 ^ k)) b (b + 2 ^ k) / 2 ^ m) ≡ odd (b / 2 ^ m) || eqb m k
unfolding marked_test
marked_bit b k m hb hk hm =
    same_bit (odd (cond (odd (b / 2 ^ k)) b (b + 2 ^ k) / 2 ^ m)) (odd (b / 2 ^ m) || eqb m k) (everywhere_at marked_test marked_tests k m b hk hm hb)

-- bit m of a byte without bit k and all above
cut_test : ℕ → ℕ → ℕ → Bool
cut_test k m b = beq (odd (b % 2 ^ k / 2 ^ m)) (odd (b / 2 ^ m) && ltb m k)

cut_tests : everywhere cut_test ≡ true
unfolding everywhere cut_test
cut_tests = refl

pub cut_bit : (b k m : ℕ) → b < 256 → k < 8 → m < 8 → odd (b % 2 ^ k / 2 ^ m) ≡ odd (b / 2 ^ m) && ltb m k
unfolding cut_test
cut_bit b k m hb hk hm = same_bit (odd (b % 2 ^ k / 2 ^ m)) (odd (b / 2 ^ m) && ltb m k) (everywhere_at cut_test cut_tests k m b hk hm hb)

-- bit m of a byte moved down by one, with the bit c on top
passed_test : ℕ → ℕ → ℕ → Bool
passed_test c m b = beq (odd ((b / 2 + c * 128) / 2 ^ m)) (cond (ltb m 7) (odd (b / 2 ^ (m + 1))) (odd c))

passed_tests : below 2 (λ c. below 8 (λ m. below 256 (passed_test c m))) ≡ true
unfolding passed_test
passed_tests = refl

pub passed_bit : (b c m : ℕ) → b < 256 → c < 2 → m < 8 → odd ((b / 2 + c * 128) / 2 ^ m) ≡ cond (ltb m 7) (odd (b / 2 ^ (m + 1))) (odd c)
unfolding passed_test
passed_bit b c m hb hc hm =
    same_bit (odd ((b / 2 + c * 128) / 2 ^ m)) (cond (ltb m 7) (odd (b / 2 ^ (m + 1))) (odd c))
    (below_at 256 (passed_test c m) (below_at 8 (λ j. below 256 (passed_test c j)) (below_at 2 (λ i. below 8 (λ j. below 256 (passed_test i j))) passed_tests c hc) m hm) b hb)
