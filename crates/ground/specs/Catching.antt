-- Which divisors catch changed bits: one in a message of any length, or up to three of n bits. What follows for sealed messages is in Distance.
use Rattle.std.specs.Prelude.{◌≡◌, refl, Bool, true, false, not, ◌||◌, List, [], ◌∷◌, ◌++◌, ℕ, zero, suc, ◌+◌, ◌%◌, ◌≤◌, ◌<◌, length, ◌==◌}
use Rattle.std.proofs.Common.{◌∙◌, sym, ap, ap₂, true≢false, arith, length-append}
use Rattle.std.proofs.Math.Bool.{or-true}
use Rattle.std.proofs.lemmas.Bool.{false≢true}
use Rattle.std.proofs.Math.Nat.{suc_inj}
use Rattle.std.proofs.lemmas.List.{length-replicate}
use Rattle.ground.specs.Bits.{odd}
use Rattle.ground.specs.Finite.{below, below_at, lists, lists_at}
use Rattle.ground.specs.Polynomial.{plus, sum, zeros, bring, remainder, weight}
use Rattle.ground.specs.Division.{length_bring}
use Rattle.ground.specs.Sums.{plus_assoc, plus_cross, plus_swap}

-- A divisor catches fewer than d changed bits of n: a message of at most n bits that leaves nothing has no 1, or at least d.
abbrev pub Catches : (g : List Bool) (n d : ℕ) → Type 0
Catches g n d = (m : List Bool) → length m ≤ n → remainder g (zeros (length g)) m ≡ zeros (length g) → weight m < d → weight m ≡ 0

-- some bit is 1
abbrev pub nonzero : List Bool → Bool
nonzero [] = false
nonzero (b ∷ l) = b || nonzero l

-- the sum of all bits
abbrev pub parity : List Bool → Bool
parity [] = false
parity (b ∷ l) = plus b (parity l)

-- x to the k, modulo the divisor
abbrev pub power : List Bool → ℕ → List Bool
power g zero = bring g (zeros (length g)) true
power g (suc k) = bring g (power g k) false

-- What a divisor must be to catch one changed bit: times x keeps a remainder from being 0.
pub record Firm (g : List Bool) : Type 0 where
  pub some : 0 < length g
  pub keeps : lists (length g) (λ r. not (nonzero r) || nonzero (bring g r false)) ≡ true

-- And to catch up to three of n: 1 is a root of it, and no power of x from the first to the n-th is 1.
pub record Strong (g : List Bool) (n : ℕ) : Type 0 where
  pub firm : Firm g
  pub root : parity g ≡ true
  pub powers : below n (λ k. nonzero (bring g (power g k) true)) ≡ true

pub nonzero_zeros : (n : ℕ) → nonzero (zeros n) ≡ false
nonzero_zeros zero = refl
nonzero_zeros (suc n) = nonzero_zeros n

nonzero_last : (l : List Bool) → nonzero (l ++ (true ∷ [])) ≡ true
nonzero_last [] = refl
nonzero_last (b ∷ l) = rw (nonzero_last l) (or-true b)

module _ (g : List Bool) (s : Firm g) where
  kept : (r : List Bool) → length r ≡ length g → nonzero r ≡ true → nonzero (bring g r false) ≡ true
  kept r e h = implied (nonzero r) (nonzero (bring g r false)) (lists_at (length g) (λ q. not (nonzero q) || nonzero (bring g q false)) s.keeps r e) h
    where
      implied : (a b : Bool) → (not a || b) ≡ true → a ≡ true → b ≡ true
      implied true b t h = t
      implied false b t h = absurd (false≢true h)

  -- zeros behind a remainder that is not 0 leave one that is not 0
  stays : (r m : List Bool) → length r ≡ length g → weight m ≡ 0 → nonzero r ≡ true → nonzero (remainder g r m) ≡ true
  stays r [] e w h = h
  stays r (false ∷ m) e w h = stays (bring g r false) m (length_bring g r false (sym e)) w (kept r e h)
  stays r (true ∷ m) e w h = absurd (omega arith)

  bring_zero : bring g (zeros (length g)) false ≡ zeros (length g)
  bring_zero = go (length g) s.some
    where
      more : (j : ℕ) → zeros j ++ (false ∷ []) ≡ false ∷ zeros j
      more zero = refl
      more (suc j) = ap (λ l. false ∷ l) (more j)

      go : (k : ℕ) → 0 < k → bring g (zeros k) false ≡ zeros k
      go zero h = absurd (omega arith)
      go (suc k) h = more k

  bring_one : nonzero (bring g (zeros (length g)) true) ≡ true
  bring_one = go (length g) s.some
    where
      go : (k : ℕ) → 0 < k → nonzero (bring g (zeros k) true) ≡ true
      go zero h = absurd (omega arith)
      go (suc k) h = nonzero_last (zeros k)

  -- one 1
  alone : (m : List Bool) → weight m ≡ 1 → nonzero (remainder g (zeros (length g)) m) ≡ true
  alone [] w = absurd (omega arith)
  alone (false ∷ m) w = rw bring_zero (alone m w)
  alone (true ∷ m) w =
      stays (bring g (zeros (length g)) true) m (length_bring g (zeros (length g)) true (sym (length-replicate (length g) false))) (suc_inj w) bring_one

  pub firm_catches : (n : ℕ) → Catches g n 2
  firm_catches n m h z w = go (weight m) refl
    where
      go : (k : ℕ) → weight m ≡ k → k ≡ 0
      go zero e = refl
      go (suc zero) e = absurd (true≢false (sym (alone m e) ∙ ap nonzero z ∙ nonzero_zeros (length g)))
      go (suc (suc k)) e = absurd (omega arith)

parity_zeros : (n : ℕ) → parity (zeros n) ≡ false
parity_zeros zero = refl
parity_zeros (suc n) = parity_zeros n

parity_more : (l : List Bool) (b : Bool) → parity (l ++ (b ∷ [])) ≡ plus b (parity l)
parity_more [] b = refl
parity_more (a ∷ l) b = ap (λ p. plus a p) (parity_more l b) ∙ plus_swap a b (parity l)

parity_sum : (l m : List Bool) → length l ≡ length m → parity (sum l m) ≡ plus (parity l) (parity m)
parity_sum [] [] e = refl
parity_sum [] (b ∷ m) e = absurd (omega arith)
parity_sum (a ∷ l) [] e = absurd (omega arith)
parity_sum (a ∷ l) (b ∷ m) e = ap (λ p. plus (plus a b) p) (parity_sum l m (suc_inj e)) ∙ plus_cross a b (parity l) (parity m)

parity_bring : (g r : List Bool) (b : Bool) → 0 < length g → parity g ≡ true → length g ≡ length r → parity (bring g r b) ≡ plus b (parity r)
parity_bring g [] b h o e = absurd (omega arith)
parity_bring g (false ∷ r) b h o e = parity_more r b
parity_bring g (true ∷ r) b h o e =
    parity_sum (r ++ (b ∷ [])) g (length-append r (b ∷ []) ∙ (omega arith))
    ∙ ap₂ plus (parity_more r b) o
    ∙ plus_assoc b (parity r) true
    ∙ ap (λ p. plus b p) (last (parity r))
  where
    last : (p : Bool) → plus p true ≡ not p
    last false = refl
    last true = refl

parity_remainder : (g r m : List Bool) → 0 < length g → parity g ≡ true → length g ≡ length r
    → parity (remainder g r m) ≡ plus (parity m) (parity r)
parity_remainder g r [] h o e = refl
parity_remainder g r (b ∷ m) h o e =
    parity_remainder g (bring g r b) m h o (sym (length_bring g r b e))
    ∙ ap (λ p. plus (parity m) p) (parity_bring g r b h o e)
    ∙ plus_swap (parity m) b (parity r)
    ∙ sym (plus_assoc b (parity m) (parity r))

odd_suc : (n : ℕ) → odd (suc n) ≡ not (odd n)
odd_suc n = go (n % 2) (suc n % 2) refl refl
  where
    go : (k m : ℕ) → n % 2 ≡ k → suc n % 2 ≡ m → (m == 1) ≡ not (k == 1)
    go zero zero e f = absurd (omega arith)
    go zero (suc zero) e f = refl
    go zero (suc (suc m)) e f = absurd (omega arith)
    go (suc zero) zero e f = refl
    go (suc zero) (suc m) e f = absurd (omega arith)
    go (suc (suc k)) m e f = absurd (omega arith)

parity_weight : (l : List Bool) → parity l ≡ odd (weight l)
parity_weight [] = refl
parity_weight (false ∷ l) = parity_weight l
parity_weight (true ∷ l) = ap not (parity_weight l) ∙ sym (odd_suc (weight l))

module _ (g : List Bool) (n : ℕ) (s : Strong g n) where
  length_power : (k : ℕ) → length (power g k) ≡ length g
  length_power zero = length_bring g (zeros (length g)) true (sym (length-replicate (length g) false))
  length_power (suc k) = length_bring g (power g k) false (sym (length_power k))

  second : (m : List Bool) (k : ℕ) → k + length m ≤ n → weight m ≡ 1 → nonzero (remainder g (power g k) m) ≡ true
  second [] k h w = absurd (omega arith)
  second (false ∷ m) k h w = second m (suc k) (omega arith) w
  second (true ∷ m) k h w =
      stays g s.firm (bring g (power g k) true) m (length_bring g (power g k) true (sym (length_power k))) (suc_inj w)
      (below_at n (λ j. nonzero (bring g (power g j) true)) s.powers k (omega arith))

  first : (m : List Bool) → length m ≤ n → weight m ≡ 2 → nonzero (remainder g (zeros (length g)) m) ≡ true
  first [] h w = absurd (omega arith)
  first (false ∷ m) h w = rw (bring_zero g s.firm) (first m (omega arith) w)
  first (true ∷ m) h w = second m 0 (omega arith) (suc_inj w)

  pub strong_catches : Catches g n 4
  strong_catches m h z w = go (weight m) refl
    where
      even : odd (weight m) ≡ false
      even =
          sym (parity_weight m)
          ∙ plus_none (parity m)
          ∙ ap (λ p. plus (parity m) p) (sym (parity_zeros (length g)))
          ∙ sym (parity_remainder g (zeros (length g)) m s.firm.some s.root (sym (length-replicate (length g) false)))
          ∙ ap parity z
          ∙ parity_zeros (length g)
        where
          plus_none : (p : Bool) → p ≡ plus p false
          plus_none false = refl
          plus_none true = refl

      go : (k : ℕ) → weight m ≡ k → k ≡ 0
      go zero e = refl
      go (suc zero) e = absurd (true≢false (ap odd (sym e) ∙ even))
      go (suc (suc zero)) e = absurd (true≢false (sym (first m h e) ∙ ap nonzero z ∙ nonzero_zeros (length g)))
      go (suc (suc (suc zero))) e = absurd (true≢false (ap odd (sym e) ∙ even))
      go (suc (suc (suc (suc k)))) e = absurd (omega arith)
