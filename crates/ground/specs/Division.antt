-- Laws of long division that hold for every divisor: it is linear, a sealed message leaves nothing, and a sum of such messages leaves nothing.
use Rattle.std.specs.Prelude.{◌≡◌, refl, Bool, true, false, List, [], ◌∷◌, ◌++◌, suc, length}
use Rattle.std.proofs.Common.{◌∙◌, sym, ap, ap₂, append_assoc, append-nil, add-one, arith, length-append}
use Rattle.std.proofs.Math.Nat.{suc_inj}
use Rattle.std.proofs.lemmas.List.{length-replicate}
use Rattle.ground.specs.Polynomial.{plus, sum, zeros, bring, remainder, check, sealed}
use Rattle.ground.specs.Sums.{length_sum, sum_append, sum_assoc, sum_comm, sum_cross, sum_self, sum_zeros, zeros_sum}

length_more : (r : List Bool) (b : Bool) → length (r ++ (b ∷ [])) ≡ suc (length r)
length_more r b = length-append r (b ∷ []) ∙ add-one (length r)

pub length_bring : (g r : List Bool) (b : Bool) → length g ≡ length r → length (bring g r b) ≡ length g
length_bring g [] b e = sym e
length_bring g (false ∷ r) b e = length_more r b ∙ sym e
length_bring g (true ∷ r) b e = length_sum (r ++ (b ∷ [])) g (length_more r b ∙ sym e) ∙ length_more r b ∙ sym e

pub length_remainder : (g r m : List Bool) → length g ≡ length r → length (remainder g r m) ≡ length g
length_remainder g r [] e = sym e
length_remainder g r (b ∷ m) e = length_remainder g (bring g r b) m (sym (length_bring g r b e))

pub remainder_append : (g r m n : List Bool) → remainder g r (m ++ n) ≡ remainder g (remainder g r m) n
remainder_append g r [] n = refl
remainder_append g r (b ∷ m) n = remainder_append g (bring g r b) m n

more_sum : (r s : List Bool) (b c : Bool) → length r ≡ length s → sum r s ++ (plus b c ∷ []) ≡ sum (r ++ (b ∷ [])) (s ++ (c ∷ []))
more_sum r s b c e = sym (sum_append r (b ∷ []) s (c ∷ []) e)

bring_sum : (g r s : List Bool) (b c : Bool) → length g ≡ length r → length r ≡ length s
    → bring g (sum r s) (plus b c) ≡ sum (bring g r b) (bring g s c)
bring_sum g [] s b c hg e = refl
bring_sum g (x ∷ r) [] b c hg e = absurd (omega arith)
bring_sum g (false ∷ r) (false ∷ s) b c hg e = more_sum r s b c (suc_inj e)
bring_sum g (false ∷ r) (true ∷ s) b c hg e =
    ap (λ l. sum l g) (more_sum r s b c (suc_inj e)) ∙ sum_assoc (r ++ (b ∷ [])) (s ++ (c ∷ [])) g
bring_sum g (true ∷ r) (false ∷ s) b c hg e =
    ap (λ l. sum l g) (more_sum r s b c (suc_inj e) ∙ sum_comm (r ++ (b ∷ [])) (s ++ (c ∷ [])))
    ∙ sum_assoc (s ++ (c ∷ [])) (r ++ (b ∷ [])) g
    ∙ sum_comm (s ++ (c ∷ [])) (sum (r ++ (b ∷ [])) g)
bring_sum g (true ∷ r) (true ∷ s) b c hg e =
    more_sum r s b c (suc_inj e)
    ∙ sym (sum_zeros R+S)
    ∙ ap (λ n. sum R+S (zeros n)) (length_sum R S (length_more r b ∙ e ∙ sym (length_more s c)) ∙ length_more r b ∙ sym hg)
    ∙ ap (λ l. sum R+S l) (sym (sum_self g))
    ∙ sum_cross R S g g
  where
    R : List Bool
    R = r ++ (b ∷ [])

    S : List Bool
    S = s ++ (c ∷ [])

    R+S : List Bool
    R+S = sum R S

pub remainder_sum : (g r s m n : List Bool) → length g ≡ length r → length r ≡ length s → length m ≡ length n
    → remainder g (sum r s) (sum m n) ≡ sum (remainder g r m) (remainder g s n)
remainder_sum g r s [] [] hg e h = refl
remainder_sum g r s [] (c ∷ n) hg e h = absurd (omega arith)
remainder_sum g r s (b ∷ m) [] hg e h = absurd (omega arith)
remainder_sum g r s (b ∷ m) (c ∷ n) hg e h =
    ap (λ l. remainder g l (sum m n)) (bring_sum g r s b c hg e)
    ∙ remainder_sum g (bring g r b) (bring g s c) m n (sym (length_bring g r b hg))
    (length_bring g r b hg ∙ sym (length_bring g s c (hg ∙ e))) (suc_inj h)

-- behind zeros, bits are brought down as they are
brought : (g u t : List Bool) → remainder g (zeros (length t) ++ u) t ≡ u ++ t
brought g u [] = sym (append-nil u)
brought g u (b ∷ t) =
    ap (λ l. remainder g l t) (append_assoc (zeros (length t)) u (b ∷ []))
    ∙ brought g (u ++ (b ∷ [])) t
    ∙ append_assoc u (b ∷ []) t

-- What a message and a tail of the check's length leave: the sum of the message's check and the tail.
pub left : (g d t : List Bool) → length t ≡ length g → remainder g (zeros (length g)) (d ++ t) ≡ sum (check g d) t
left g d t e =
    remainder_append g z d t
    ∙ ap₂ (λ p q. remainder g p q) (sym (sum_zeros r) ∙ ap (λ n. sum r (zeros n)) hr) (sym (zeros_sum t) ∙ ap (λ n. sum (zeros n) t) e)
    ∙ remainder_sum g r z z t (sym hr) (hr ∙ sym hz) (hz ∙ sym e)
    ∙ ap₂ sum (sym (remainder_append g z d z)) (ap (λ l. remainder g l t) (ap zeros (sym e) ∙ sym (append-nil (zeros (length t)))) ∙ brought g [] t)
  where
    z : List Bool
    z = zeros (length g)

    hz : length z ≡ length g
    hz = length-replicate (length g) false

    r : List Bool
    r = remainder g z d

    hr : length r ≡ length g
    hr = length_remainder g z d (sym hz)

pub length_check : (g d : List Bool) → length (check g d) ≡ length g
length_check g d = length_remainder g (zeros (length g)) (d ++ zeros (length g)) (sym (length-replicate (length g) false))

-- a sealed message leaves nothing
pub sound : (g d : List Bool) → remainder g (zeros (length g)) (sealed g d) ≡ zeros (length g)
sound g d = left g d (check g d) (length_check g d) ∙ sum_self (check g d) ∙ ap zeros (length_check g d)
