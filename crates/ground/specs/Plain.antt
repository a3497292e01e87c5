-- Choices and comparisons as definitions write them. Each is the kit's own function by another name, so that what is known of that one holds of it; a choice and an
-- equality are the kit's by its own names.
use Rattle.std.specs.Prelude.{Bool, cond, ◌≡◌, refl, ℕ, eqb, leb, ltb, if◌then◌else◌, ◌==◌}

infix 50 ◌<?◌ ◌≤?◌
abbrev pub ◌<?◌ : ℕ → ℕ → Bool
m <? n = ltb m n

abbrev pub ◌≤?◌ : ℕ → ℕ → Bool
m ≤? n = leb m n

choice_is : {A : Type 0} (test : Bool) (one other : A) → (if test then one else other) ≡ cond test one other
choice_is test one other = refl

same_is : (m n : ℕ) → (m == n) ≡ eqb m n
same_is m n = refl

below_is : (m n : ℕ) → (m <? n) ≡ ltb m n
below_is m n = refl

at_most_is : (m n : ℕ) → (m ≤? n) ≡ leb m n
at_most_is m n = refl
