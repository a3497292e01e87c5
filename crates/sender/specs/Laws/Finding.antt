-- The slot that holds a number, as a loop finds it.
use Rattle.std.proofs.Math.Path.{◌≡◌, refl}
use Rattle.std.proofs.Common.{sym, ap, ◌∙◌, add-one}
use Rattle.std.proofs.Math.Logic.{⊎_elim}
use Rattle.std.specs.Prelude.{◌≢◌, Bool, List, Option, Some, None}
use Rattle.std.proofs.Math.Bool.{true, false, true≢false}
use Prim.Native.Nat.{ℕ, zero, suc, ◌+◌, ◌<◌}
use Rattle.std.proofs.Math.Nat.{not-suc-le-zero}
use native.Mathlib.Omega.{arith}
use Rattle.ground.specs.Truth.{eq_or_ne}
use Rattle.sender.specs.declared.table.Slot.{Slot}
use Rattle.sender.specs.Table.{holder_of, holds, slot_at}

module _ (slots : List Slot) (q : ℕ) where
  pub holder_none : holder_of slots 0 q ≡ None
  unfolding holder_of
  holder_none = refl

  -- a slot that does not hold the number is passed over
  pub holder_on : (i : ℕ) → holder_of slots i q ≡ None → holds (slot_at slots i) q ≡ false → holder_of slots (i + 1) q ≡ None
  unfolding holder_of
  holder_on i e h = rw (add-one, e, h)

  -- the first that holds it is found
  pub holder_here : (i n : ℕ) → i < n → holder_of slots i q ≡ None → holds (slot_at slots i) q ≡ true → holder_of slots n q ≡ Some i
  unfolding holder_of
  holder_here i zero b e h = absurd (not-suc-le-zero b)
  holder_here i (suc n) b e h =
      let rest = holder_here i n in
      ⊎_elim (λ (g : i ≡ n). rw (← g, e, h)) (λ (g : i ≢ n). rw (rest (omega arith) e h)) (eq_or_ne i n)

  -- where none of the n holds it, none is found
  pub holder_nowhere : (n : ℕ) → ((k : ℕ) → k < n → holds (slot_at slots k) q ≡ false) → holder_of slots n q ≡ None
  unfolding holder_of
  holder_nowhere zero h = holder_none
  holder_nowhere (suc n) h = rw (holder_nowhere n (λ k b. h k (omega arith)), h n (omega arith))

  -- what is found is one of the n slots, and holds the number
  pub holder_said : (n i : ℕ) → holder_of slots n q ≡ Some i → (i < n) × (holds (slot_at slots i) q ≡ true)
  unfolding holder_of
  holder_said zero i e = absurd (let z : ◌≡◌ {A = ℕ} 0 1 = cc in omega arith)
  holder_said (suc n) i e = go (holder_of slots n q) refl (holds (slot_at slots n) q) refl (holder_said n)
    where
      go : (f : Option ℕ) → holder_of slots n q ≡ f → (b : Bool) → holds (slot_at slots n) q ≡ b
          → ((j : ℕ) → holder_of slots n q ≡ Some j → (j < n) × (holds (slot_at slots j) q ≡ true)) → (i < suc n) × (holds (slot_at slots i) q ≡ true)
      go (Some j) g b h rest =
          let same : Some j ≡ Some i = rw g at e in
          let k : j ≡ i = cc in
          let r = rest i (g ∙ same) in
          (let l = r.0 in omega arith, r.1)
      go None g true h rest =
          let same : Some n ≡ Some i = rw (g, h) at e in
          let k : n ≡ i = cc in
          (omega arith, rw (← k) h)
      go None g false h rest =
          let same : None ≡ Some i = rw (g, h) at e in
          absurd (let z : ◌≡◌ {A = ℕ} 0 1 = cc in omega arith)

  -- a number that a slot holds is found
  holder_some : (n i : ℕ) → i < n → holds (slot_at slots i) q ≡ true → holder_of slots n q ≡ None → ⊥
  unfolding holder_of
  holder_some zero i b h e = not-suc-le-zero b
  holder_some (suc n) i b h e = go (holder_of slots n q) refl (holds (slot_at slots n) q) refl (holder_some n i)
    where
      go : (f : Option ℕ) → holder_of slots n q ≡ f → (c : Bool) → holds (slot_at slots n) q ≡ c → (i < n → holds (slot_at slots i) q ≡ true → holder_of slots n q ≡ None → ⊥) → ⊥
      go (Some j) g c w rest = let same : Some j ≡ None = rw g at e in absurd (let z : ◌≡◌ {A = ℕ} 0 1 = cc in omega arith)
      go None g true w rest = let same : Some n ≡ None = rw (g, w) at e in absurd (let z : ◌≡◌ {A = ℕ} 0 1 = cc in omega arith)
      go None g false w rest = ⊎_elim (λ (same : i ≡ n). true≢false (sym h ∙ rw same w)) (λ (d : i ≢ n). rest (omega arith) h g) (eq_or_ne i n)

  -- and it is that slot, where no other holds it
  pub holder_is : (n i : ℕ) → i < n → holds (slot_at slots i) q ≡ true → ((j : ℕ) → j < n → holds (slot_at slots j) q ≡ true → j ≡ i) → holder_of slots n q ≡ Some i
  holder_is n i b h one = go (holder_of slots n q) refl
    where
      go : (f : Option ℕ) → holder_of slots n q ≡ f → holder_of slots n q ≡ Some i
      go (Some j) g = let s = holder_said n j g in g ∙ ap Some (one j s.0 s.1)
      go None g = absurd (holder_some n i b h g)
