-- What a divisor that catches fewer than d changed bits of n makes of sealed messages: they differ in at least d bits, or not at all.
use Rattle.std.specs.Prelude.{◌≡◌, refl, Bool, true, false, List, [], ◌∷◌, ◌++◌, ℕ, zero, suc, ◌+◌, ◌≤◌, ◌<◌, length, take}
use Rattle.std.proofs.Common.{◌∙◌, sym, ap, ap₂, arith, length-append, take_at}
use Rattle.std.proofs.Math.Decide.{dec_le}
use Rattle.std.proofs.lemmas.List.{length-replicate}
use Rattle.ground.specs.Catching.{Catches}
use Rattle.ground.specs.Polynomial.{sum, zeros, remainder, check, sealed, weight, bits_apart}
use Rattle.ground.specs.Division.{length_check, remainder_sum, sound}
use Rattle.ground.specs.Sums.{length_sum, sum_apart, sum_self, sum_zeros}

weight_zeros : (l : List Bool) → weight l ≡ 0 → l ≡ zeros (length l)
weight_zeros [] e = refl
weight_zeros (false ∷ l) e = ap (λ m. false ∷ m) (weight_zeros l e)
weight_zeros (true ∷ l) e = absurd (omega arith)

module _ (g : List Bool) (n d : ℕ) (catches : Catches g n d) where
  -- Two messages that leave nothing and differ in fewer than d bits are one.
  pub close : (a b : List Bool) → length a ≡ length b → length a ≤ n
      → remainder g (zeros (length g)) a ≡ zeros (length g) → remainder g (zeros (length g)) b ≡ zeros (length g) → bits_apart a b < d → a ≡ b
  close a b e h za zb w =
      sum_apart a b e (weight_zeros (sum a b) (catches (sum a b) (rw (length_sum a b e) h) none w) ∙ ap zeros (length_sum a b e))
    where
      z : List Bool
      z = zeros (length g)

      hz : length z ≡ length g
      hz = length-replicate (length g) false

      same : sum z z ≡ z
      same = ap (λ k. sum z (zeros k)) (sym hz) ∙ sum_zeros z

      none : remainder g z (sum a b) ≡ z
      none = ap (λ l. remainder g l (sum a b)) (sym same) ∙ remainder_sum g z z a b (sym hz) refl e ∙ ap₂ sum za zb ∙ same

  pub length_sealed : (m : List Bool) → length (sealed g m) ≡ length m + length g
  length_sealed m = length-append m (check g m) ∙ ap (λ k. length m + k) (length_check g m)

  -- Two different messages of one length, sealed, differ in at least d bits.
  pub sealed_apart : (m e : List Bool) → length m ≡ length e → length m + length g ≤ n → (m ≡ e → ⊥) → d ≤ bits_apart (sealed g m) (sealed g e)
  sealed_apart m e h b differ = go (dec_le d (bits_apart (sealed g m) (sealed g e)))
    where
      front : sealed g m ≡ sealed g e → m ≡ e
      front p =
          sym (take_at m (check g m) (length m) refl) ∙ ap (λ l. take (length m) l) p ∙ take_at e (check g e) (length m) (sym h)

      go : Dec (d ≤ bits_apart (sealed g m) (sealed g e)) → d ≤ bits_apart (sealed g m) (sealed g e)
      go (yes q) = q
      go (no q) =
          absurd (differ (front (close (sealed g m) (sealed g e)
          (length_sealed m ∙ ap (λ k. k + length g) h ∙ sym (length_sealed e)) (rw (length_sealed m) b) (sound g m) (sound g e) (omega arith))))

  -- A sealed message with at least one bit changed, and fewer than d, carries a tail that is not the check of what stands before it.
  pub caught : (m e t : List Bool) → length m ≡ length e → length t ≡ length g → length m + length g ≤ n
      → 1 ≤ bits_apart (sealed g m) (e ++ t) → bits_apart (sealed g m) (e ++ t) < d → check g e ≡ t → ⊥
  caught m e t h ht b low high same = omega (arith, alike)
    where
      changed : e ++ t ≡ sealed g e
      changed = ap (λ l. e ++ l) (sym same)

      one : sealed g m ≡ e ++ t
      one = close (sealed g m) (e ++ t) (length_sealed m ∙ ap (λ k. k + length g) h ∙ sym (length_sealed e) ∙ ap length (sym changed)) (rw (length_sealed m) b) (sound g m)
          (ap (λ l. remainder g (zeros (length g)) l) changed ∙ sound g e) high

      alike : bits_apart (sealed g m) (e ++ t) ≡ 0
      alike = ap (λ l. weight (sum l (e ++ t))) one ∙ ap weight (sum_self (e ++ t)) ∙ none (length (e ++ t))
        where
          none : (k : ℕ) → weight (zeros k) ≡ 0
          none zero = refl
          none (suc k) = none k
