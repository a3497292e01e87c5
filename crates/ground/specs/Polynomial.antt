-- Polynomials over bits, the highest coefficient first, and the remainder of long division. The divisor is a parameter, written without its leading 1.
use Rattle.std.specs.Prelude.{Bool, true, false, not, List, [], ◌∷◌, ◌++◌, ℕ, suc, length, replicate}

-- the sum of two bits modulo 2
abbrev pub plus : Bool → Bool → Bool
plus false b = b
plus true b = not b

-- the sum of two polynomials, place by place; what one is longer is left out
abbrev pub sum : List Bool → List Bool → List Bool
sum [] m = []
sum (a ∷ l) [] = []
sum (a ∷ l) (b ∷ m) = plus a b ∷ sum l m

-- a polynomial of n places that is 0
abbrev pub zeros : ℕ → List Bool
zeros n = replicate n false

-- One step of long division by g: the next bit is brought down behind the remainder so far, and the divisor is taken off where a 1 leaves at the top.
abbrev pub bring : (g r : List Bool) (b : Bool) → List Bool
bring g [] b = []
bring g (false ∷ r) b = r ++ (b ∷ [])
bring g (true ∷ r) b = sum (r ++ (b ∷ [])) g

-- the remainder after all bits of m are brought down behind r
abbrev pub remainder : (g r m : List Bool) → List Bool
remainder g r [] = r
remainder g r (b ∷ m) = remainder g (bring g r b) m

-- the check of m: m times x to the divisor's degree, modulo the divisor
abbrev pub check : List Bool → List Bool → List Bool
check g m = remainder g (zeros (length g)) (m ++ zeros (length g))

-- a message with its check behind it
abbrev pub sealed : List Bool → List Bool → List Bool
sealed g m = m ++ check g m

-- how many bits are 1
abbrev pub weight : List Bool → ℕ
weight [] = 0
weight (false ∷ l) = weight l
weight (true ∷ l) = suc (weight l)

-- in how many bits two messages of one length differ
abbrev pub bits_apart : List Bool → List Bool → ℕ
bits_apart l m = weight (sum l m)
