-- What `digit_of` is by plain comparisons, and by the bits of a digit: computed at every byte.
use Rattle.std.specs.Prelude.{◌≡◌, refl, Bool, true, not, ◌&&◌, ◌||◌, ℕ, ◌+◌, ◌*◌, ◌/◌, ◌%◌, ◌≤◌, ◌<◌, eqb, leb, ltb}
use Rattle.std.specs.Bool.{beq}
use Rattle.std.proofs.Common.{arith, eqb-true, lt-ltb}
use Rattle.ground.specs.Finite.{below, below_at, same_bit}
use Rattle.text.specs.Fields.{digit_of}

abbrev lies : ℕ → ℕ → ℕ → ℕ → Bool
lies b from to limit = (leb from b && leb b to) && ltb b limit

abbrev is_below : ℕ → ℕ → Bool
is_below base b = (lies b 48 57 (48 + base) || lies b 65 70 (55 + base)) || lies b 97 102 (87 + base)

below_test : ℕ → ℕ → Bool
below_test base b = beq (is_below base b) (ltb (digit_of b) base)

below_tests : below 17 (λ base. below 256 (below_test base)) ≡ true
unfolding below_test digit_of
below_tests = refl

pub digit_below : (base b : ℕ) → base ≤ 16 → b < 256 → is_below base b ≡ ltb (digit_of b) base
unfolding below_test
digit_below base b l h = same_bit (is_below base b) (ltb (digit_of b) base) (below_at 256 (below_test base) (below_at 17 (λ n. below 256 (below_test n)) below_tests base (omega arith)) b h)

value_test : ℕ → Bool
value_test b = not (ltb (digit_of b) 16) || eqb (b % 16 + b / 64 * 9) (digit_of b)

value_tests : below 256 value_test ≡ true
unfolding value_test digit_of
value_tests = refl

pub digit_value : (b : ℕ) → b < 256 → digit_of b < 16 → b % 16 + b / 64 * 9 ≡ digit_of b
unfolding value_test
digit_value b h d =
    let t : (not (ltb (digit_of b) 16) || eqb (b % 16 + b / 64 * 9) (digit_of b)) ≡ true = below_at 256 value_test value_tests b h in
    eqb-true (b % 16 + b / 64 * 9) (digit_of b) (rw (lt-ltb (digit_of b) 16 d) at t)
