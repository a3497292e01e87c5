-- Adding keeps the numbering.
use Rattle.std.specs.Prelude.{◌≡◌, ◌≢◌, true, false, ℕ, suc, ◌≤◌, ◌<◌}
use Rattle.std.proofs.Common.{◌∙◌, sym, ap, ⊎_elim, true≢false, arith}
use Rattle.std.proofs.lemmas.Bool.{false≢true}
use Rattle.ground.specs.Truth.{eq_or_ne}
use Rattle.ground.specs.Counting.Laws.Numbers.{count_ext, count_mono, count_without}
use Rattle.ground.specs.Counting.Words.{Apart}
use Rattle.sender.specs.declared.table.State.{State}
use Rattle.sender.specs.declared.table.State.TheVariants.{Add}
use Rattle.sender.specs.Table.{is_add, is_member}
use Rattle.sender.specs.Laws.Numbered.{Numbered, placed_member, idle_placed}
use Rattle.sender.specs.Numbering.{is_placed, placed, members}

-- one slot, s, is added; the others stay
module _ (n idle : ℕ) (st su : ℕ → State) (nu nv : ℕ → ℕ) (s : ℕ) (h : s < n) (others : (j : ℕ) → j < n → j ≢ s → (su j ≡ st j) × (nv j ≡ nu j)) where
  -- It takes the next number: the numbering holds again. A slot is s, whose number is the count of members before it, or one that stays; members are one more, placed ones as many.
  pub numbered_add : is_member (st s) ≡ false → su s ≡ Add → nv s ≡ members st n → Numbered n idle st nu → Numbered n idle su nv
  numbered_add out added number o =
      record { once = once; low = low; follow = follow; top = top; idles = idles }
    where
      m : members su n ≡ suc (members st n)
      m = count_without n (λ i. is_member (su i)) (λ i. is_member (st i)) s h (ap is_member added) out (λ k b d. ap is_member (others k b d).0)

      p : placed su n ≡ placed st n
      p =
          count_ext n (λ i. is_placed (su i)) (λ i. is_placed (st i)) (λ k b.
          ⊎_elim (λ (e : k ≡ s). rw e (ap is_placed added ∙ sym (idle_placed (st s) out))) (λ (d : k ≢ s). ap is_placed (others k b d).0) (eq_or_ne k s))

      p≤m : placed st n ≤ members st n
      p≤m = count_mono n (λ i. is_placed (st i)) (λ i. is_member (st i)) (λ k b e. placed_member (st k) e)

      old : (j : ℕ) → j < n → j ≢ s → is_member (su j) ≡ true → nv j < members st n
      old j b d a = rw (others j b d).1 (o.top j b (rw (others j b d).0 at a))

      once : Apart n (λ i. is_member (su i)) nv
      once i j hi hj mi mj e =
          ⊎_elim
          (λ (ei : i ≡ s).
          ⊎_elim (λ (ej : j ≡ s). ei ∙ sym ej)
          (λ (dj : j ≢ s). absurd (let w = old j hj dj mj in let v : nv i ≡ members st n = ap nv ei ∙ number in omega arith))
          (eq_or_ne j s))
          (λ (di : i ≢ s).
          ⊎_elim (λ (ej : j ≡ s). absurd (let w = old i hi di mi in let v : nv j ≡ members st n = ap nv ej ∙ number in omega arith))
          (λ (dj : j ≢ s). o.once i j hi hj (rw (others i hi di).0 at mi) (rw (others j hj dj).0 at mj) (sym (others i hi di).1 ∙ e ∙ (others j hj dj).1))
          (eq_or_ne j s))
          (eq_or_ne i s)

      low : (i : ℕ) → i < n → is_placed (su i) ≡ true → nv i < placed su n
      low i b a =
          ⊎_elim (λ (e : i ≡ s). absurd (false≢true (sym (ap (λ (k : ℕ). is_placed (su k)) e ∙ ap is_placed added) ∙ a)))
          (λ (d : i ≢ s). rw ((others i b d).1, p) (o.low i b (rw (others i b d).0 at a)))
          (eq_or_ne i s)

      follow : (i : ℕ) → i < n → is_add (su i) ≡ true → placed su n ≤ nv i
      follow i b a =
          ⊎_elim (λ (e : i ≡ s). rw (e, number, p) p≤m)
          (λ (d : i ≢ s). rw ((others i b d).1, p) (o.follow i b (rw (others i b d).0 at a)))
          (eq_or_ne i s)

      top : (i : ℕ) → i < n → is_member (su i) ≡ true → nv i < members su n
      top i b a =
          ⊎_elim (λ (e : i ≡ s). rw (e, number, m) (omega arith))
          (λ (d : i ≢ s). let w = old i b d a in rw m (omega arith))
          (eq_or_ne i s)

      idles : (i : ℕ) → i < n → is_member (su i) ≡ false → nv i ≡ idle
      idles i b a =
          ⊎_elim (λ (e : i ≡ s). absurd (true≢false (sym (ap (λ (k : ℕ). is_member (su k)) e ∙ ap is_member added) ∙ a)))
          (λ (d : i ≢ s). (others i b d).1 ∙ o.idles i b (rw (others i b d).0 at a))
          (eq_or_ne i s)
