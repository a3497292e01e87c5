-- What stands on a board after changes are laid on it.
use Rattle.std.specs.Prelude.{◌≡◌, refl, ◌≢◌, List, ℕ, zero, suc, ◌<◌, length}
use Rattle.std.proofs.Common.{◌∙◌, ⊎_elim, arith, length-set, get_or-set_other, get_or-set_same}
use Rattle.ground.specs.Truth.{eq_or_ne}
use Rattle.sender.specs.declared.board.Row.{Row}
use Rattle.sender.specs.Ranks.{row_at}
use Rattle.spoken.specs.declared.lists.Change.{Change}
use Rattle.spoken.specs.Applying.{change_in, laid_to}
use Rattle.spoken.specs.Laws.Rising.{Rising, rising_lt, slot_in}

module _ (rows : List Row) (list : List Change) where
  pub length_laid : (n : ℕ) → length (laid_to rows list n) ≡ length rows
  length_laid zero = refl
  length_laid (suc n) = length-set (laid_to rows list n) (slot_in list n) (change_in list n).new ∙ length_laid n

  -- a slot that no change names
  pub laid_other : (n i : ℕ) → ((k : ℕ) → k < n → slot_in list k ≢ i) → row_at (laid_to rows list n) i ≡ row_at rows i
  laid_other zero i h = refl
  laid_other (suc n) i h =
      get_or-set_other (laid_to rows list n) (slot_in list n) i (change_in list n).new _ (λ (e : i ≡ slot_in list n). h n (omega arith) (rw e))
      ∙ laid_other n i (λ k b. h k (omega arith))

  -- the slot of a change
  pub laid_at : (n : ℕ) → Rising list n → ((k : ℕ) → k < n → slot_in list k < length rows) → (k : ℕ) → k < n → row_at (laid_to rows list n) (slot_in list k) ≡ (change_in list k).new
  laid_at zero r b k h = absurd (omega arith)
  laid_at (suc n) r b k h =
      let before = laid_at n (λ j l. r j (omega arith)) (λ j l. b j (omega arith)) k in
      let own : slot_in list n < length (laid_to rows list n) = rw (length_laid n) (b n (omega arith)) in
      let here : row_at (laid_to rows list (suc n)) (slot_in list n) ≡ (change_in list n).new = get_or-set_same (laid_to rows list n) (slot_in list n) (change_in list n).new _ own in
      ⊎_elim
      (λ (e : k ≡ n). rw e here)
      (λ (d : k ≢ n).
      let lower : slot_in list k < slot_in list n = rising_lt list (suc n) r k n (omega arith) (omega arith) in
      get_or-set_other (laid_to rows list n) (slot_in list n) (slot_in list k) (change_in list n).new _ (λ (e : slot_in list k ≡ slot_in list n). omega arith) ∙ before (omega arith))
      (eq_or_ne k n)
