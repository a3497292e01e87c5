-- Lists, numbers and tests of all, as the reports' bytes, the last sentence and the owing port want them.
use Rattle.std.specs.Prelude.{◌≡◌, refl, ◌≢◌, ℕ, zero, suc, ◌+◌, ◌-◌, ◌≤◌, ◌<◌, drop, length, take}
use Rattle.std.proofs.Common.{sym, ap, ◌∙◌, ⊎_elim, arith, length-drop, ext_get_or, get_or-drop, get_or-take, length-take-le}
use mathlib.Core.List.{List, [], ◌∷◌, ◌++◌, head-eq_of_cons-eq, tail-eq_of_cons-eq}
use Rattle.ground.specs.Drawn.{fill_at, get_or_after, get_or_fill_at, length_fill_at}
use Rattle.ground.specs.Table.{tabulate, tabulate_ext, tabulate_is}
use Rattle.ground.specs.Truth.{eq_or_ne, le_or_lt}

-- two numbers of which neither is less
pub not_apart : (m n : ℕ) → (m < n → ⊥) → (n < m → ⊥) → m ≡ n
not_apart m n less more =
    ⊎_elim (λ (h : m ≤ n). ⊎_elim (λ (e : m ≡ n). e) (λ (d : m ≢ n). absurd (less (omega arith))) (eq_or_ne m n)) (λ (h : n < m). absurd (more h)) (le_or_lt m n)

module _ {A : Type 0} where
  -- two lists of parts, the first parts as long
  pub append_apart : (a b c d : List A) → length a ≡ length b → a ++ c ≡ b ++ d → (a ≡ b) × (c ≡ d)
  append_apart [] [] c d l e = (refl, e)
  append_apart [] (y ∷ b) c d l e = absurd (omega arith)
  append_apart (x ∷ a) [] c d l e = absurd (omega arith)
  append_apart (x ∷ a) (y ∷ b) c d l e =
      let r = append_apart a b c d (omega arith) (tail-eq_of_cons-eq e) in
      (λ i. head-eq_of_cons-eq e i ∷ r.0 i, r.1)

  -- a table filled in at the front, and what is behind it
  pub take_fill : (n : ℕ) (f : ℕ → A) (d : List A) (z : A) → n ≤ length d → take n (fill_at 0 n f d) ≡ tabulate n f
  take_fill n f d z h =
      let l : length (fill_at 0 n f d) ≡ length d = length_fill_at 0 n f d in
      tabulate_is (take n (fill_at 0 n f d)) n f z (length-take-le n (fill_at 0 n f d) (omega arith))
      (λ k b. let e : 0 + k ≡ k = omega arith in get_or-take n (fill_at 0 n f d) k z b ∙ rw e at (get_or_fill_at 0 n f d k z b (omega arith)))

  pub drop_fill : (n : ℕ) (f : ℕ → A) (d : List A) (z : A) → drop n (fill_at 0 n f d) ≡ drop n d
  drop_fill n f d z =
      ext_get_or z (drop n (fill_at 0 n f d)) (drop n d) (length-drop n (fill_at 0 n f d) ∙ ap (λ (k : ℕ). k - n) (length_fill_at 0 n f d) ∙ sym (length-drop n d))
      (λ k b. get_or-drop n (fill_at 0 n f d) k z ∙ get_or_after 0 n f d (n + k) z (omega arith) ∙ sym (get_or-drop n d k z))

  -- one table behind another
  pub tabulate_append : (a b : ℕ) (f : ℕ → A) → tabulate (a + b) f ≡ tabulate a f ++ tabulate b (λ k. f (a + k))
  tabulate_append zero b f =
      let e : 0 + b ≡ b = omega arith in
      ap (λ (n : ℕ). tabulate n f) e ∙ tabulate_ext b f (λ k. f (0 + k)) (λ k h. let q : k ≡ 0 + k = omega arith in ap f q)
  tabulate_append (suc a) b f =
      let e : suc a + b ≡ suc (a + b) = omega arith in
      ap (λ (n : ℕ). tabulate n f) e
      ∙ ap (λ (l : List A). f zero ∷ l) (tabulate_append a b (λ k. f (suc k)))
      ∙ ap (λ (l : List A). tabulate (suc a) f ++ l)
      (tabulate_ext b (λ k. f (suc (a + k))) (λ k. f (suc a + k)) (λ k h. let q : suc (a + k) ≡ suc a + k = omega arith in ap f q))
