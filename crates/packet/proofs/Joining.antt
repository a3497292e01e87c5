-- The shares of a packet's seven bytes, as the code joins them.
use Rattle.std.proofs.Common.{◌≡◌, ℕ, [], ◌∷◌, get_or, sym, ap}
use lib.Bits.{bit_xor, xor_zero_l}
use Rattle.packet.specs.Shares.{joined_by}

pub from_first : (a b c d e f g : ℕ) → bit_xor (bit_xor (bit_xor (bit_xor (bit_xor (bit_xor a b) c) d) e) f) g ≡ bit_xor (bit_xor (bit_xor (bit_xor (bit_xor (bit_xor (bit_xor 0 a) b) c) d) e) f) g
from_first a b c d e f g = ap (λ (x : ℕ). bit_xor (bit_xor (bit_xor (bit_xor (bit_xor (bit_xor x b) c) d) e) f) g) (sym (xor_zero_l a))

pub seven : (share : ℕ → ℕ → ℕ) (byte : ℕ → ℕ) (a b c d e f g : ℕ) → a ≡ byte 0 → b ≡ byte 1 → c ≡ byte 2 → d ≡ byte 3 → e ≡ byte 4 → f ≡ byte 5 → g ≡ byte 6
    → joined_by share (λ p. get_or (a ∷ b ∷ c ∷ d ∷ e ∷ f ∷ g ∷ []) p 0) 7 ≡ joined_by share byte 7
seven share byte a b c d e f g ea eb ec ed ee ef eg = λ i. joined_by share (λ p. get_or (ea i ∷ eb i ∷ ec i ∷ ed i ∷ ee i ∷ ef i ∷ eg i ∷ []) p 0) 7
