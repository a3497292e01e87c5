-- Removing keeps the numbering: 'Higher numbers fall by one.'
use Rattle.std.specs.Prelude.{◌≡◌, ◌⊎◌, ◌≢◌, true, false, cond, ℕ, suc, ◌-◌, ◌≤◌, ◌<◌, ltb}
use Rattle.std.proofs.Common.{◌∙◌, sym, ap, ⊎_elim, inl, inr, true≢false, arith, lt-ltb, le-ltb}
use Rattle.ground.specs.Truth.{eq_or_ne, le_or_lt}
use Rattle.ground.specs.Counting.Laws.Numbers.{count_ext, count_without}
use Rattle.ground.specs.Counting.Words.{Apart}
use Rattle.sender.specs.declared.table.State.{State}
use Rattle.sender.specs.Laws.Numbered.{Numbered, placed_member, add_member, add_placed, idle_placed, member_cases}
use Rattle.sender.specs.Numbering.{is_placed, placed, members}
use Rattle.sender.specs.Table.{is_add, is_member}

-- a member's number once the number q is free
abbrev pub lower : ℕ → ℕ → ℕ
lower q x = cond (ltb q x) (x - 1) x

-- a number falls or stays
lower_cases : (q x : ℕ) → ((q < x) × (lower q x ≡ x - 1)) ⊎ ((x ≤ q) × (lower q x ≡ x))
lower_cases q x = ⊎_elim (λ (g : x ≤ q). inr (g, rw (le-ltb q x g))) (λ (g : q < x). inl (g, rw (lt-ltb q x g))) (le_or_lt x q)

-- numbers other than q stay apart
lower_apart : (q x y : ℕ) → x ≢ q → y ≢ q → lower q x ≡ lower q y → x ≡ y
lower_apart q x y dx dy e = go (lower q x) (lower q y) e (lower_cases q x) (lower_cases q y)
  where
    go : (a b : ℕ) → a ≡ b → ((q < x) × (a ≡ x - 1)) ⊎ ((x ≤ q) × (a ≡ x)) → ((q < y) × (b ≡ y - 1)) ⊎ ((y ≤ q) × (b ≡ y)) → x ≡ y
    go a b s (inl g) (inl h) = omega arith
    go a b s (inl g) (inr h) = omega arith
    go a b s (inr g) (inl h) = omega arith
    go a b s (inr g) (inr h) = omega arith

-- below a bound above q it comes below the bound less one
lower_below : (q x b : ℕ) → x ≢ q → q < suc b → x < suc b → lower q x < b
lower_below q x b d h l =
    ⊎_elim (λ (g : (q < x) × (lower q x ≡ x - 1)). rw g.1 (let w = g.0 in omega arith))
    (λ (g : (x ≤ q) × (lower q x ≡ x)). rw g.1 (let w = g.0 in omega arith))
    (lower_cases q x)

-- below a bound that is not above q it stays there
lower_under : (q x b : ℕ) → x < b → b ≤ q → lower q x < b
lower_under q x b l h = rw (le-ltb q x (omega arith)) l

-- above q it comes no lower than a bound less one
lower_above : (q x b : ℕ) → q < x → b < x → b ≤ lower q x
lower_above q x b g l = rw (lt-ltb q x g) (omega arith)

module _ (n idle : ℕ) (st su : ℕ → State) (nu nv : ℕ → ℕ) (s : ℕ) (h : s < n) (member : is_member (st s) ≡ true) (gone : is_member (su s) ≡ false) (number : nv s ≡ idle)
    (others : (j : ℕ) → j < n → j ≢ s → su j ≡ st j) (fall : (j : ℕ) → j < n → j ≢ s → is_member (st j) ≡ true → nv j ≡ lower (nu s) (nu j))
    (stay : (j : ℕ) → j < n → j ≢ s → is_member (st j) ≡ false → nv j ≡ nu j) (o : Numbered n idle st nu) where
  abbrev q : ℕ
  q = nu s

  m : members st n ≡ suc (members su n)
  m = count_without n (λ i. is_member (st i)) (λ i. is_member (su i)) s h member gone (λ k b d. ap is_member (sym (others k b d)))

  -- where the slot was active or DNU
  p_placed : is_placed (st s) ≡ true → placed st n ≡ suc (placed su n)
  p_placed a = count_without n (λ i. is_placed (st i)) (λ i. is_placed (su i)) s h a (idle_placed (su s) gone) (λ k b d. ap is_placed (sym (others k b d)))

  -- where it was ADD
  p_add : is_placed (st s) ≡ false → placed st n ≡ placed su n
  p_add a =
      count_ext n (λ i. is_placed (st i)) (λ i. is_placed (su i)) (λ k b.
      ⊎_elim (λ (e : k ≡ s). rw e (a ∙ sym (idle_placed (su s) gone))) (λ (d : k ≢ s). ap is_placed (sym (others k b d))) (eq_or_ne k s))

  -- a member afterwards is another slot, was a member, and held another number
  other : (i : ℕ) → is_member (su i) ≡ true → i ≢ s
  other i a = λ (e : i ≡ s). true≢false (sym a ∙ ap (λ (k : ℕ). is_member (su k)) e ∙ gone)

  was : (i : ℕ) → i < n → is_member (su i) ≡ true → is_member (st i) ≡ true
  was i b a = rw (others i b (other i a)) at a

  differs : (i : ℕ) → i < n → is_member (su i) ≡ true → nu i ≢ q
  differs i b a = λ (e : nu i ≡ q). other i a (o.once i s b h (was i b a) member e)

  falls : (i : ℕ) → i < n → is_member (su i) ≡ true → nv i ≡ lower q (nu i)
  falls i b a = fall i b (other i a) (was i b a)

  once : Apart n (λ i. is_member (su i)) nv
  once i j hi hj mi mj e =
      o.once i j hi hj (was i hi mi) (was j hj mj)
      (lower_apart q (nu i) (nu j) (differs i hi mi) (differs j hj mj) (sym (falls i hi mi) ∙ e ∙ falls j hj mj))

  low : (i : ℕ) → i < n → is_placed (su i) ≡ true → nv i < placed su n
  low i b a =
      let mi : is_member (su i) ≡ true = placed_member (su i) a in
      let l : nu i < placed st n = o.low i b (rw (others i b (other i mi)) at a) in
      rw (falls i b mi) (⊎_elim
      (λ (t : is_placed (st s) ≡ true).
      let e = p_placed t in
      let k : q < placed st n = o.low s h t in
      lower_below q (nu i) (placed su n) (differs i b mi) (omega arith) (omega arith))
      (λ (t : is_add (st s) ≡ true).
      let e = p_add (add_placed (st s) t) in
      let k : placed st n ≤ q = o.follow s h t in
      lower_under q (nu i) (placed su n) (omega arith) (omega arith))
      (member_cases (st s) member))

  follow : (i : ℕ) → i < n → is_add (su i) ≡ true → placed su n ≤ nv i
  follow i b a =
      let mi : is_member (su i) ≡ true = add_member (su i) a in
      let l : placed st n ≤ nu i = o.follow i b (rw (others i b (other i mi)) at a) in
      rw (falls i b mi) (⊎_elim
      (λ (t : is_placed (st s) ≡ true).
      let e = p_placed t in
      let k : q < placed st n = o.low s h t in
      lower_above q (nu i) (placed su n) (omega arith) (omega arith))
      (λ (t : is_add (st s) ≡ true).
      let e = p_add (add_placed (st s) t) in
      let k : placed st n ≤ q = o.follow s h t in
      let d = differs i b mi in
      ⊎_elim (λ (g : nu i ≤ q). rw (le-ltb q (nu i) g) (omega arith)) (λ (g : q < nu i). lower_above q (nu i) (placed su n) g (omega arith)) (le_or_lt (nu i) q))
      (member_cases (st s) member))

  top : (i : ℕ) → i < n → is_member (su i) ≡ true → nv i < members su n
  top i b a =
      let l : nu i < members st n = o.top i b (was i b a) in
      let k : q < members st n = o.top s h member in
      let e = m in
      rw (falls i b a) (lower_below q (nu i) (members su n) (differs i b a) (omega arith) (omega arith))

  idles : (i : ℕ) → i < n → is_member (su i) ≡ false → nv i ≡ idle
  idles i b a =
      ⊎_elim (λ (e : i ≡ s). rw e number)
      (λ (d : i ≢ s). let w : is_member (st i) ≡ false = rw (others i b d) at a in stay i b d w ∙ o.idles i b w)
      (eq_or_ne i s)

  pub numbered_remove : Numbered n idle su nv
  numbered_remove = record { once = once; low = low; follow = follow; top = top; idles = idles }
