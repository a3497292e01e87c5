-- A list by its places: the table of a function's values, and what a loop or a proof asks of it.
-- The tail is bound by a `let`, so that to read one element costs by its place and not by the table's length.
use Rattle.std.specs.Prelude.{◌≡◌, refl, List, [], ◌∷◌, ◌++◌, ℕ, zero, suc, ◌<◌, length, get_or}
use Rattle.std.proofs.Common.{sym, ap, ◌∙◌, suc-le-suc, not-suc-le-zero, le_of_suc-le-suc, zero-lt-suc, ext_get_or}

module _ {A : Type 0} where
  -- f 0, f 1, .. f (n - 1)
  abbrev pub tabulate : ℕ → (ℕ → A) → List A
  tabulate zero f = []
  tabulate (suc n) f = let t = tabulate n (λ k. f (suc k)) in f zero ∷ t

  pub length_tabulate : (n : ℕ) (f : ℕ → A) → length (tabulate n f) ≡ n
  length_tabulate zero f = refl
  length_tabulate (suc n) f = ap suc (length_tabulate n (λ k. f (suc k)))

  pub get_or_tabulate : (n : ℕ) (f : ℕ → A) (k : ℕ) (z : A) → k < n → get_or (tabulate n f) k z ≡ f k
  get_or_tabulate zero f k z h = absurd (not-suc-le-zero h)
  get_or_tabulate (suc n) f zero z h = refl
  get_or_tabulate (suc n) f (suc k) z h = get_or_tabulate n (λ i. f (suc i)) k z (le_of_suc-le-suc h)

  -- functions that agree below n have one table
  pub tabulate_ext : (n : ℕ) (f g : ℕ → A) → ((k : ℕ) → k < n → f k ≡ g k) → tabulate n f ≡ tabulate n g
  tabulate_ext zero f g h = refl
  tabulate_ext (suc n) f g h =
      λ i. h zero (zero-lt-suc n) i ∷ tabulate_ext n (λ k. f (suc k)) (λ k. g (suc k)) (λ k b. h (suc k) (suc-le-suc b)) i

  -- a list is the table of its elements
  pub tabulate_self : (l : List A) (z : A) → tabulate (length l) (λ k. get_or l k z) ≡ l
  tabulate_self [] z = refl
  tabulate_self (x ∷ xs) z = ap (λ (r : List A). x ∷ r) (tabulate_self xs z)

  -- one more at the end
  pub tabulate_suc : (n : ℕ) (f : ℕ → A) → tabulate (suc n) f ≡ tabulate n f ++ (f n ∷ [])
  tabulate_suc zero f = refl
  tabulate_suc (suc n) f = ap (λ (r : List A). f zero ∷ r) (tabulate_suc n (λ k. f (suc k)))

  -- a list whose elements are f's is f's table
  pub tabulate_is : (l : List A) (n : ℕ) (f : ℕ → A) (z : A) → length l ≡ n → ((k : ℕ) → k < n → get_or l k z ≡ f k) → l ≡ tabulate n f
  tabulate_is l n f z e h =
      ext_get_or z l (tabulate n f) (e ∙ sym (length_tabulate n f))
      (λ k b. let m : k < n = rw e at b in h k m ∙ sym (get_or_tabulate n f k z m))
