-- Slots that rise strictly are different ones.
use Rattle.std.specs.Prelude.{◌≡◌, refl, ◌≢◌, true, List, ℕ, zero, suc, ◌<◌}
use Rattle.std.proofs.Common.{⊎_elim, arith, lt-ltb, ltb-true}
use Rattle.ground.specs.Truth.{eq_or_ne}
use Rattle.spoken.specs.declared.lists.Change.{Change}
use Rattle.spoken.specs.Applying.{change_in, rises_at}

abbrev pub slot_in : List Change → ℕ → ℕ
slot_in list k = (change_in list k).slot

-- each change but the first has a slot above the one before
abbrev pub Rising : List Change → ℕ → Type 0
Rising list n = (k : ℕ) → k < n → rises_at list k ≡ true

module _ (list : List Change) where
  pub rises_next : (n k : ℕ) → Rising list n → suc k < n → slot_in list k < slot_in list (suc k)
  rises_next n k r h = ltb-true (slot_in list k) (slot_in list (suc k)) (r (suc k) h)

  pub rising_lt : (n : ℕ) → Rising list n → (i j : ℕ) → i < j → j < n → slot_in list i < slot_in list j
  rising_lt n r i zero h b = absurd (omega arith)
  rising_lt n r i (suc j) h b =
      let before = rising_lt n r i j in
      let above = rises_next n j r b in
      ⊎_elim (λ (e : i ≡ j). rw e above) (λ (d : i ≢ j). let w = before (omega arith) (omega arith) in omega arith) (eq_or_ne i j)

  pub rising_next : (n : ℕ) → ((k : ℕ) → suc k < n → slot_in list k < slot_in list (suc k)) → Rising list n
  rising_next n r zero h = refl
  rising_next n r (suc k) h = lt-ltb (slot_in list k) (slot_in list (suc k)) (r k h)

  pub rising_by : (n : ℕ) → ((i j : ℕ) → i < j → j < n → slot_in list i < slot_in list j) → Rising list n
  rising_by n r = rising_next n (λ k h. r k (suc k) (omega arith) h)
