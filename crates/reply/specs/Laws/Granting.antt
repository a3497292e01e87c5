-- What becomes of a table of holders as ports get numbers in turn.
use Rattle.std.specs.Prelude.{◌≡◌, ◌⊎◌, ◌≢◌, Bool, cond, ◌&&◌, List, length, set}
use Rattle.std.proofs.Math.Path.{refl, sym}
use Rattle.std.proofs.Common.{ap, ◌∙◌, not-suc-le-zero, arith, length-set, get_or-set_same, get_or-set_other}
use Rattle.std.proofs.Math.Logic.{inl, inr, ⊎_elim}
use Rattle.std.proofs.Math.Bool.{true, false}
use Prim.Native.Nat.{ℕ, zero, suc, ◌≤◌, ◌<◌}
use Rattle.std.proofs.Math.Dec.{eqb}
use borrow.Author.Tests.{eq-eqb, eqb-true, eqb-false}
use Rattle.ground.specs.Truth.{and-true, and_left, and_right, eq_or_ne}
use Rattle.reply.specs.Choosing.{FREE, grant, granted, holder_of}

-- whether a port asks for a number and finds it free
abbrev finds : Bool → ℕ → List ℕ → Bool
finds asks q h = asks && eqb (holder_of h q) FREE

pub length_grant : (asks : Bool) (q : ℕ) (h : List ℕ) (i : ℕ) → length (grant asks q h i) ≡ length h
unfolding grant
length_grant asks q h i = go (finds asks q h)
  where
    go : (b : Bool) → length (cond b (set h q i) h) ≡ length h
    go true = length-set h q i
    go false = refl

-- a number that is taken stays its holder's
pub grant_kept : (asks : Bool) (q : ℕ) (h : List ℕ) (i k : ℕ) → holder_of h k ≢ FREE → holder_of (grant asks q h i) k ≡ holder_of h k
unfolding grant
grant_kept asks q h i k taken = go (finds asks q h) refl
  where
    go : (b : Bool) → finds asks q h ≡ b → holder_of (cond b (set h q i) h) k ≡ holder_of h k
    go true e =
        let free : holder_of h q ≡ FREE = eqb-true (holder_of h q) FREE (and_right asks (eqb (holder_of h q) FREE) e) in
        get_or-set_other h q k i FREE (λ (s : k ≡ q). taken (ap (λ (m : ℕ). holder_of h m) s ∙ free))
    go false e = refl

-- so does any that is not asked for
grant_other : (asks : Bool) (q : ℕ) (h : List ℕ) (i k : ℕ) → k ≢ q → holder_of (grant asks q h i) k ≡ holder_of h k
unfolding grant
grant_other asks q h i k d = go (finds asks q h)
  where
    go : (b : Bool) → holder_of (cond b (set h q i) h) k ≡ holder_of h k
    go true = get_or-set_other h q k i FREE d
    go false = refl

-- one that asks and finds its number free holds it
pub grant_holds : (asks : Bool) (q : ℕ) (h : List ℕ) (i : ℕ) → length h ≡ 64 → q < 64 → asks ≡ true → holder_of h q ≡ FREE
    → holder_of (grant asks q h i) q ≡ i
unfolding grant
grant_holds asks q h i len b c free = rw (and-true asks _ c (eq-eqb (holder_of h q) FREE free)) (get_or-set_same h q i FREE (omega arith))

-- the holder of a number was so before, or has just got it
pub grant_from : (asks : Bool) (q : ℕ) (h : List ℕ) (i k x : ℕ) → length h ≡ 64 → (asks ≡ true → q < 64) → holder_of (grant asks q h i) k ≡ x
    → (holder_of h k ≡ x) ⊎ ((i ≡ x) × (asks ≡ true) × (q ≡ k))
unfolding grant
grant_from asks q h i k x len low = go (finds asks q h) refl
  where
    go : (b : Bool) → finds asks q h ≡ b → holder_of (cond b (set h q i) h) k ≡ x → (holder_of h k ≡ x) ⊎ ((i ≡ x) × (asks ≡ true) × (q ≡ k))
    go false e is = inl is
    go true e is =
        let c : asks ≡ true = and_left asks (eqb (holder_of h q) FREE) e in
        let b : q < 64 = low c in
        ⊎_elim
        (λ (s : k ≡ q). inr (sym (get_or-set_same h q i FREE (omega arith)) ∙ ap (λ (m : ℕ). holder_of (set h q i) m) (sym s) ∙ is, c, sym s))
        (λ (d : k ≢ q). inl (sym (get_or-set_other h q k i FREE d) ∙ is))
        (eq_or_ne k q)

own_by : (b : Bool) (q : ℕ) (h g : List ℕ) (i : ℕ) → length h ≡ 64 → length g ≡ 64 → q < 64 → holder_of h q ≡ holder_of g q
    → holder_of (cond b (set h q i) h) q ≡ holder_of (cond b (set g q i) g) q
own_by true q h g i lh lg b e = get_or-set_same h q i FREE (omega arith) ∙ sym (get_or-set_same g q i FREE (omega arith))
own_by false q h g i lh lg b e = e

grant_own : (asks : Bool) (q : ℕ) (h g : List ℕ) (i : ℕ) → length h ≡ 64 → length g ≡ 64 → (asks ≡ true → q < 64) → holder_of h q ≡ holder_of g q
    → holder_of (grant asks q h i) q ≡ holder_of (grant asks q g i) q
unfolding grant
grant_own false q h g i lh lg low e = e
grant_own true q h g i lh lg low e =
    ap (λ (x : ℕ). holder_of (cond (eqb x FREE) (set h q i) h) q) e ∙ own_by (eqb (holder_of g q) FREE) q h g i lh lg (low refl) e

-- what becomes of a number hangs on its own holder, and on nothing else in the table
grant_same : (asks : Bool) (q : ℕ) (h g : List ℕ) (i k : ℕ) → length h ≡ 64 → length g ≡ 64 → (asks ≡ true → q < 64) → holder_of h k ≡ holder_of g k
    → holder_of (grant asks q h i) k ≡ holder_of (grant asks q g i) k
grant_same asks q h g i k lh lg low e =
    ⊎_elim (λ (s : k ≡ q). rw s (grant_own asks q h g i lh lg low (rw s at e)))
    (λ (d : k ≢ q). grant_other asks q h i k d ∙ e ∙ sym (grant_other asks q g i k d))
    (eq_or_ne k q)

-- port i, one of the first n, has asked for q
pub record Granted (asks : ℕ → Bool) (number : ℕ → ℕ) (n q i : ℕ) : Type 0 where
  pub below : i < n
  pub asked : asks i ≡ true
  pub same : number i ≡ q

module _ (asks : ℕ → Bool) (number : ℕ → ℕ) where
  pub length_granted : (n : ℕ) (h : List ℕ) → length (granted asks number n h) ≡ length h
  unfolding granted
  length_granted zero h = refl
  length_granted (suc n) h = length_grant (asks n) (number n) (granted asks number n h) n ∙ length_granted n h

  -- a number that is taken stays its holder's throughout
  pub granted_kept : (n : ℕ) (h : List ℕ) (q : ℕ) → holder_of h q ≢ FREE → holder_of (granted asks number n h) q ≡ holder_of h q
  unfolding granted
  granted_kept zero h q taken = refl
  granted_kept (suc n) h q taken =
      let rest : holder_of (granted asks number n h) q ≡ holder_of h q = granted_kept n h q taken in
      grant_kept (asks n) (number n) (granted asks number n h) n q (λ (e : holder_of (granted asks number n h) q ≡ FREE). taken (sym rest ∙ e)) ∙ rest

module _ (asks : ℕ → Bool) (number : ℕ → ℕ) (low : (i : ℕ) → asks i ≡ true → number i < 64) where
  -- the holder of a number was so before, or has asked for it
  pub granted_from : (n : ℕ) (h : List ℕ) (q x : ℕ) → length h ≡ 64 → holder_of (granted asks number n h) q ≡ x
      → (holder_of h q ≡ x) ⊎ Granted asks number n q x
  unfolding granted
  granted_from zero h q x len is = inl is
  granted_from (suc n) h q x len is =
      let rest = granted_from n h q x len in
      ⊎_elim (λ (e : holder_of (granted asks number n h) q ≡ x). ⊎_elim (λ (o : holder_of h q ≡ x). inl o) (λ (c : Granted asks number n q x). inr (longer c)) (rest e))
      (λ (w : (n ≡ x) × (asks n ≡ true) × (number n ≡ q)). inr (now w))
      (grant_from (asks n) (number n) (granted asks number n h) n q x (length_granted asks number n h ∙ len) (low n) is)
    where
      longer : Granted asks number n q x → Granted asks number (suc n) q x
      longer c = record { below = (let b = c.below in omega arith); asked = c.asked; same = c.same }

      now : (n ≡ x) × (asks n ≡ true) × (number n ≡ q) → Granted asks number (suc n) q x
      now w =
          record {
            below = (let e = w.0 in omega arith);
            asked = rw (← w.0) w.1;
            same = rw (← w.0) w.2;
          }

  -- no number that was asked for is free afterwards
  pub granted_after : (n : ℕ) (h : List ℕ) (i : ℕ) → length h ≡ 64 → n ≤ 64 → i < n → asks i ≡ true
      → holder_of (granted asks number n h) (number i) ≢ FREE
  unfolding granted
  granted_after zero h i len small b c = absurd (not-suc-le-zero b)
  granted_after (suc n) h i len small b c =
      let rest = granted_after n h i len in
      ⊎_elim (λ (e : i ≡ n). last e)
      (λ (d : i ≢ n).
      let t : holder_of (granted asks number n h) (number i) ≢ FREE = rest (omega arith) (omega arith) c in
      λ (z : holder_of (granted asks number (suc n) h) (number i) ≡ FREE).
      t (sym (grant_kept (asks n) (number n) (granted asks number n h) n (number i) t) ∙ z))
      (eq_or_ne i n)
    where
      own : (b : Bool) → eqb (holder_of (granted asks number n h) (number n)) FREE ≡ b → asks n ≡ true
          → holder_of (grant (asks n) (number n) (granted asks number n h) n) (number n) ≢ FREE
      own true e k =
          let is : holder_of (grant (asks n) (number n) (granted asks number n h) n) (number n) ≡ n =
          grant_holds (asks n) (number n) (granted asks number n h) n (length_granted asks number n h ∙ len) (low n k) k
          (eqb-true (holder_of (granted asks number n h) (number n)) FREE e) in
          λ (z : holder_of (grant (asks n) (number n) (granted asks number n h) n) (number n) ≡ FREE).
          (let w : n ≡ FREE = sym is ∙ z in omega arith)
      own false e k =
          let t : holder_of (granted asks number n h) (number n) ≢ FREE = eqb-false (holder_of (granted asks number n h) (number n)) FREE e in
          λ (z : holder_of (grant (asks n) (number n) (granted asks number n h) n) (number n) ≡ FREE).
          t (sym (grant_kept (asks n) (number n) (granted asks number n h) n (number n) t) ∙ z)

      last : i ≡ n → holder_of (grant (asks n) (number n) (granted asks number n h) n) (number i) ≢ FREE
      last e = rw e (own (eqb (holder_of (granted asks number n h) (number n)) FREE) refl (rw e at c))

  -- the first of those that ask for a free number holds it
  pub granted_first : (n : ℕ) (h : List ℕ) (i : ℕ) → length h ≡ 64 → n ≤ 64 → i < n → asks i ≡ true → holder_of h (number i) ≡ FREE
      → ((j : ℕ) → j < i → asks j ≡ true → number j ≢ number i)
      → holder_of (granted asks number n h) (number i) ≡ i
  unfolding granted
  granted_first zero h i len small b c free none = absurd (not-suc-le-zero b)
  granted_first (suc n) h i len small b c free none =
      let rest = granted_first n h i len in
      ⊎_elim (λ (e : i ≡ n). last e)
      (λ (d : i ≢ n).
      let is : holder_of (granted asks number n h) (number i) ≡ i = rest (omega arith) (omega arith) c free none in
      grant_kept (asks n) (number n) (granted asks number n h) n (number i)
      (λ (z : holder_of (granted asks number n h) (number i) ≡ FREE). let w : i ≡ FREE = sym is ∙ z in omega arith)
      ∙ is)
      (eq_or_ne i n)
    where
      last : i ≡ n → holder_of (grant (asks n) (number n) (granted asks number n h) n) (number i) ≡ i
      last e =
          let still : holder_of (granted asks number n h) (number i) ≡ FREE =
          ⊎_elim (λ (o : holder_of h (number i) ≡ holder_of (granted asks number n h) (number i)). sym o ∙ free)
          (λ (o : Granted asks number n (number i) (holder_of (granted asks number n h) (number i))).
          absurd (none (holder_of (granted asks number n h) (number i)) (let k = o.below in omega arith) o.asked o.same))
          (granted_from n h (number i) (holder_of (granted asks number n h) (number i)) len refl) in
          rw (← e) (grant_holds (asks i) (number i) (granted asks number i h) i (length_granted asks number i h ∙ len) (low i c) c (rw (← e) at still))

  -- what becomes of a number hangs on its own holder, and on nothing else in the table
  pub granted_same : (n : ℕ) (h g : List ℕ) (q : ℕ) → length h ≡ 64 → length g ≡ 64 → holder_of h q ≡ holder_of g q
      → holder_of (granted asks number n h) q ≡ holder_of (granted asks number n g) q
  unfolding granted
  granted_same zero h g q lh lg e = e
  granted_same (suc n) h g q lh lg e =
      grant_same (asks n) (number n) (granted asks number n h) (granted asks number n g) n q (length_granted asks number n h ∙ lh)
      (length_granted asks number n g ∙ lg) (low n) (granted_same n h g q lh lg e)

-- tests and numbers that agree give the same table
pub granted_ext : (n : ℕ) (f g : ℕ → Bool) (number : ℕ → ℕ) (h : List ℕ) → ((i : ℕ) → i < n → f i ≡ g i) → granted f number n h ≡ granted g number n h
unfolding granted
granted_ext zero f g number h e = refl
granted_ext (suc n) f g number h e =
    ap (λ (l : List ℕ). grant (f n) (number n) l n) (granted_ext n f g number h (λ i b. e i (omega arith)))
    ∙ ap (λ (b : Bool). grant b (number n) (granted g number n h) n) (e n (omega arith))
