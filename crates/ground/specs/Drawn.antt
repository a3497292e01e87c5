-- A list rewritten at some of its places, in any order: what stands in a lent slice after some of a loop's stores.
-- `drawn t f d` is d with f k at each place k that the test t names. All laws are over the test; a run of places that
-- starts anywhere (`fill_at`) is the instance that most loops want.
use Rattle.std.specs.Prelude.{◌≡◌, refl, ◌≢◌, Bool, true, false, ◌&&◌, ◌||◌, List, [], ◌∷◌, ℕ, zero, suc, ◌+◌, ◌-◌, ◌≤◌, ◌<◌, length, get_or, set, if◌then◌else◌, ◌==◌}
use Rattle.std.proofs.Common.{sym, ap, ◌∙◌, ⊎_elim, suc-le-suc, not-suc-le-zero, le_of_suc-le-suc, zero-lt-suc, arith, le-leb, lt-ltb, leb-true, ltb-true, eqb-true, eq-eqb}
use Rattle.std.proofs.Math.Bool.{or-false, or-true}
use Rattle.std.proofs.Math.Dec.{eqb-zero-suc, eqb-suc-zero, eqb-suc-suc}
use Rattle.ground.specs.Plain.{◌<?◌, ◌≤?◌}
use Rattle.ground.specs.Table.{tabulate, tabulate_ext}
use Rattle.ground.specs.Truth.{and-true, and_left, and_right, or_left, or_right, or_cases, same_test, fails, le_or_lt, eq_or_ne}

-- a place of the n from a on
abbrev pub within : (a n k : ℕ) → Bool
within a n k = a ≤? k && k <? a + n

pub within_true : (a n k : ℕ) → a ≤ k → k < a + n → within a n k ≡ true
within_true a n k h b = and-true _ _ (le-leb a k h) (lt-ltb k (a + n) b)

pub within_said : (a n k : ℕ) → within a n k ≡ true → (a ≤ k) × (k < a + n)
within_said a n k e = (leb-true a k (and_left (a ≤? k) (k <? a + n) e), ltb-true k (a + n) (and_right (a ≤? k) (k <? a + n) e))

pub within_one : (p k : ℕ) → (k == p) ≡ within p 1 k
within_one p k =
    same_test (k == p) (within p 1 k) (λ e. let i = eqb-true k p e in within_true p 1 k (omega arith) (omega arith))
    (λ e. let w = within_said p 1 k e in eq-eqb k p (omega arith))

pub within_none : (a k : ℕ) → within a 0 k ≡ false
within_none a k = fails (within a 0 k) (λ e. let w = within_said a 0 k e in omega arith)

module _ {A : Type 0} where
  abbrev pub drawn : (t : ℕ → Bool) (f : ℕ → A) (xs : List A) → List A
  drawn t f [] = []
  drawn t f (x ∷ xs) = let r = drawn (λ k. t (suc k)) (λ k. f (suc k)) xs in (if t zero then f zero else x) ∷ r

  pub length_drawn : (t : ℕ → Bool) (f : ℕ → A) (d : List A) → length (drawn t f d) ≡ length d
  length_drawn t f [] = refl
  length_drawn t f (x ∷ xs) = ap suc (length_drawn (λ k. t (suc k)) (λ k. f (suc k)) xs)

  pub get_or_drawn : (t : ℕ → Bool) (f : ℕ → A) (d : List A) (k : ℕ) (z : A) → k < length d → get_or (drawn t f d) k z ≡ (if t k then f k else get_or d k z)
  get_or_drawn t f [] k z h = absurd (not-suc-le-zero h)
  get_or_drawn t f (x ∷ xs) zero z h = refl
  get_or_drawn t f (x ∷ xs) (suc k) z h = get_or_drawn (λ i. t (suc i)) (λ i. f (suc i)) xs k z (le_of_suc-le-suc h)

  -- what the test does not name stands as it was, also past the end
  pub get_or_kept : (t : ℕ → Bool) (f : ℕ → A) (d : List A) (k : ℕ) (z : A) → t k ≡ false → get_or (drawn t f d) k z ≡ get_or d k z
  get_or_kept t f [] k z h = refl
  get_or_kept t f (x ∷ xs) zero z h = rw h
  get_or_kept t f (x ∷ xs) (suc k) z h = get_or_kept (λ i. t (suc i)) (λ i. f (suc i)) xs k z h

  -- tests that agree on the list's places, and functions that agree where the test holds
  pub drawn_by : (t u : ℕ → Bool) (f g : ℕ → A) (d : List A) → ((k : ℕ) → k < length d → t k ≡ u k) → ((k : ℕ) → k < length d → u k ≡ true → f k ≡ g k)
      → drawn t f d ≡ drawn u g d
  drawn_by t u f g [] ht hf = refl
  drawn_by t u f g (x ∷ xs) ht hf =
      λ i. first (u zero) refl i ∷ drawn_by (λ k. t (suc k)) (λ k. u (suc k)) (λ k. f (suc k)) (λ k. g (suc k)) xs
      (λ k b. ht (suc k) (suc-le-suc b)) (λ k b. hf (suc k) (suc-le-suc b)) i
    where
      first : (b : Bool) → u zero ≡ b → (if t zero then f zero else x) ≡ (if u zero then g zero else x)
      first true e = rw (ht zero (zero-lt-suc (length xs)), e) (hf zero (zero-lt-suc (length xs)) e)
      first false e = rw (ht zero (zero-lt-suc (length xs)), e)

  -- no place
  pub drawn_none : (t : ℕ → Bool) (f : ℕ → A) (d : List A) → ((k : ℕ) → k < length d → t k ≡ false) → drawn t f d ≡ d
  drawn_none t f [] h = refl
  drawn_none t f (x ∷ xs) h =
      rw (h zero (zero-lt-suc (length xs))) (ap (λ (r : List A). x ∷ r) (drawn_none (λ k. t (suc k)) (λ k. f (suc k)) xs (λ k b. h (suc k) (suc-le-suc b))))

  -- every place
  pub drawn_all : (t : ℕ → Bool) (f : ℕ → A) (d : List A) → ((k : ℕ) → k < length d → t k ≡ true) → drawn t f d ≡ tabulate (length d) f
  drawn_all t f [] h = refl
  drawn_all t f (x ∷ xs) h =
      rw (h zero (zero-lt-suc (length xs))) (ap (λ (r : List A). f zero ∷ r) (drawn_all (λ k. t (suc k)) (λ k. f (suc k)) xs (λ k b. h (suc k) (suc-le-suc b))))

  -- one place more
  pub drawn_put : (t : ℕ → Bool) (f : ℕ → A) (d : List A) (p : ℕ) → set (drawn t f d) p (f p) ≡ drawn (λ k. t k || k == p) f d
  drawn_put t f [] p = refl
  drawn_put t f (x ∷ xs) zero = simp (or-true, eqb-suc-zero, or-false)
  drawn_put t f (x ∷ xs) (suc p) =
      simp (eqb-zero-suc, eqb-suc-suc, or-false) (ap (λ (r : List A). (if t zero then f zero else x) ∷ r) (drawn_put (λ k. t (suc k)) (λ k. f (suc k)) xs p))

  -- one drawing after another
  pub drawn_then : (t u : ℕ → Bool) (f : ℕ → A) (d : List A) → drawn u f (drawn t f d) ≡ drawn (λ k. t k || u k) f d
  drawn_then t u f [] = refl
  drawn_then t u f (x ∷ xs) =
      λ i. first (t zero) (u zero) i ∷ drawn_then (λ k. t (suc k)) (λ k. u (suc k)) (λ k. f (suc k)) xs i
    where
      first : (b c : Bool) → (if c then f zero else if b then f zero else x) ≡ (if b || c then f zero else x)
      first true true = refl
      first true false = refl
      first false true = refl
      first false false = refl

  -- What a loop's invariant says of its slice. The length stands beside the equation, for the arithmetic of indices.
  pub record Drawing (t : ℕ → Bool) (f : ℕ → A) (d out : List A) : Type 0 where
    pub len : length out ≡ length d
    pub is : out ≡ drawn t f d

  pub drawing : (t : ℕ → Bool) (f : ℕ → A) (d out : List A) → out ≡ drawn t f d → Drawing t f d out
  drawing t f d out e = record { len = ap length e ∙ length_drawn t f d; is = e }

  pub drawing_none : (t : ℕ → Bool) (f : ℕ → A) (d : List A) → ((k : ℕ) → t k ≡ false) → Drawing t f d d
  drawing_none t f d h = drawing t f d d (sym (drawn_none t f d (λ k b. h k)))

  -- a store at p
  pub drawing_put : {t : ℕ → Bool} {f : ℕ → A} {d out : List A} (u : ℕ → Bool) (p : ℕ) (v : A) → Drawing t f d out
      → v ≡ f p → ((k : ℕ) → (t k || k == p) ≡ u k) → Drawing u f d (set out p v)
  drawing_put {t} {f} {d} {out} u p v h e same =
      drawing u f d (set out p v)
      (ap (λ (l : List A). set l p v) h.is ∙ ap (λ (w : A). set (drawn t f d) p w) e ∙ drawn_put t f d p
      ∙ drawn_by (λ k. t k || k == p) u f f d (λ k b. same k) (λ k b w. refl))

  -- the drawing of another loop
  pub drawing_then : {t : ℕ → Bool} {f : ℕ → A} {d mid : List A} (v u : ℕ → Bool) (g : ℕ → A) (out : List A) → Drawing t f d mid
      → out ≡ drawn u g mid → ((k : ℕ) → u k ≡ true → g k ≡ f k) → ((k : ℕ) → (t k || u k) ≡ v k) → Drawing v f d out
  drawing_then {t} {f} {d} {mid} v u g out h e agree same =
      drawing v f d out
      (e ∙ ap (λ (l : List A). drawn u g l) h.is ∙ drawn_by u u g f (drawn t f d) (λ k b. refl) (λ k b. agree k) ∙ drawn_then t u f d
      ∙ drawn_by (λ k. t k || u k) v f f d (λ k b. same k) (λ k b w. refl))

  -- the n places from a on
  abbrev pub fill_at : (a n : ℕ) (f : ℕ → A) (d : List A) → List A
  fill_at a n f d = drawn (within a n) (λ k. f (k - a)) d

  pub length_fill_at : (a n : ℕ) (f : ℕ → A) (d : List A) → length (fill_at a n f d) ≡ length d
  length_fill_at a n f d = length_drawn (within a n) (λ k. f (k - a)) d

  pub get_or_fill_at : (a n : ℕ) (f : ℕ → A) (d : List A) (j : ℕ) (z : A) → j < n → a + j < length d → get_or (fill_at a n f d) (a + j) z ≡ f j
  get_or_fill_at a n f d j z h b =
      get_or_drawn (within a n) (λ k. f (k - a)) d (a + j) z b
      ∙ rw (within_true a n (a + j) (omega arith) (omega arith)) (let e : a + j - a ≡ j = omega arith in rw e)

  pub get_or_before : (a n : ℕ) (f : ℕ → A) (d : List A) (k : ℕ) (z : A) → k < a → get_or (fill_at a n f d) k z ≡ get_or d k z
  get_or_before a n f d k z h = get_or_kept (within a n) (λ i. f (i - a)) d k z (fails _ (λ e. let w = within_said a n k e in omega arith))

  pub get_or_after : (a n : ℕ) (f : ℕ → A) (d : List A) (k : ℕ) (z : A) → a + n ≤ k → get_or (fill_at a n f d) k z ≡ get_or d k z
  get_or_after a n f d k z h = get_or_kept (within a n) (λ i. f (i - a)) d k z (fails _ (λ e. let w = within_said a n k e in omega arith))

  -- functions that agree below n
  pub fill_at_ext : (a n : ℕ) (f g : ℕ → A) (d : List A) → ((j : ℕ) → j < n → f j ≡ g j) → fill_at a n f d ≡ fill_at a n g d
  fill_at_ext a n f g d h =
      drawn_by (within a n) (within a n) (λ k. f (k - a)) (λ k. g (k - a)) d (λ k b. refl) (λ k b e. let w = within_said a n k e in h (k - a) (omega arith))

  pub fill_at_none : (a : ℕ) (f : ℕ → A) (d : List A) → fill_at a 0 f d ≡ d
  fill_at_none a f d = drawn_none (within a 0) (λ k. f (k - a)) d (λ k b. within_none a k)

  -- the whole list
  pub fill_at_all : (n : ℕ) (f : ℕ → A) (d : List A) → length d ≡ n → fill_at 0 n f d ≡ tabulate n f
  fill_at_all n f d e =
      drawn_all (within 0 n) (λ k. f (k - 0)) d (λ k b. within_true 0 n k (omega arith) (omega arith))
      ∙ rw e (tabulate_ext n (λ k. f (k - 0)) f (λ k b. let m : k - 0 ≡ k = omega arith in rw m))

  -- one more at the end
  pub fill_at_put : (a n : ℕ) (f : ℕ → A) (d : List A) → set (fill_at a n f d) (a + n) (f n) ≡ fill_at a (n + 1) f d
  fill_at_put a n f d =
      let e : f n ≡ f (a + n - a) = (let m : a + n - a ≡ n = omega arith in rw m) in
      ap (λ (v : A). set (fill_at a n f d) (a + n) v) e
      ∙ drawn_put (within a n) (λ k. f (k - a)) d (a + n)
      ∙ drawn_by (λ k. within a n k || k == a + n) (within a (n + 1)) (λ k. f (k - a)) (λ k. f (k - a)) d
      (λ k b. same_test _ _ (to k) (back k)) (λ k b w. refl)
    where
      to : (k : ℕ) → (within a n k || k == a + n) ≡ true → within a (n + 1) k ≡ true
      to k e =
          ⊎_elim (λ (g : within a n k ≡ true). let w = within_said a n k g in within_true a (n + 1) k (omega arith) (omega arith))
          (λ (g : (k == a + n) ≡ true). let w = eqb-true k (a + n) g in within_true a (n + 1) k (omega arith) (omega arith))
          (or_cases (within a n k) (k == a + n) e)

      back : (k : ℕ) → within a (n + 1) k ≡ true → (within a n k || k == a + n) ≡ true
      back k e =
          let w = within_said a (n + 1) k e in
          ⊎_elim (λ (g : k ≡ a + n). or_right (within a n k) _ (eq-eqb k (a + n) g))
          (λ (g : k ≢ a + n). or_left _ (k == a + n) (within_true a n k (omega arith) (omega arith)))
          (eq_or_ne k (a + n))

  -- a piece more at the end
  pub fill_at_piece : (a n m : ℕ) (f g h : ℕ → A) (d : List A) → ((j : ℕ) → j < n → f j ≡ h j) → ((j : ℕ) → j < m → g j ≡ h (n + j))
      → fill_at (a + n) m g (fill_at a n f d) ≡ fill_at a (n + m) h d
  fill_at_piece a n m f g h d hf hg =
      let F : ℕ → A = λ k. h (k - a) in
      ap (λ (l : List A). fill_at (a + n) m g l) (drawn_by (within a n) (within a n) (λ k. f (k - a)) F d (λ k b. refl) one)
      ∙ drawn_by (within (a + n) m) (within (a + n) m) (λ k. g (k - (a + n))) F (drawn (within a n) F d) (λ k b. refl) two
      ∙ drawn_then (within a n) (within (a + n) m) F d
      ∙ drawn_by (λ k. within a n k || within (a + n) m k) (within a (n + m)) F F d (λ k b. same_test _ _ (to k) (back k)) (λ k b w. refl)
    where
      one : (k : ℕ) → k < length d → within a n k ≡ true → f (k - a) ≡ h (k - a)
      one k b e = let w = within_said a n k e in hf (k - a) (omega arith)

      two : (k : ℕ) → k < length (drawn (within a n) (λ i. h (i - a)) d) → within (a + n) m k ≡ true → g (k - (a + n)) ≡ h (k - a)
      two k b e =
          let w = within_said (a + n) m k e in
          let i : n + (k - (a + n)) ≡ k - a = omega arith in
          hg (k - (a + n)) (omega arith) ∙ rw i

      to : (k : ℕ) → (within a n k || within (a + n) m k) ≡ true → within a (n + m) k ≡ true
      to k e =
          ⊎_elim (λ (q : within a n k ≡ true). let w = within_said a n k q in within_true a (n + m) k (omega arith) (omega arith))
          (λ (q : within (a + n) m k ≡ true). let w = within_said (a + n) m k q in within_true a (n + m) k (omega arith) (omega arith))
          (or_cases (within a n k) (within (a + n) m k) e)

      back : (k : ℕ) → within a (n + m) k ≡ true → (within a n k || within (a + n) m k) ≡ true
      back k e =
          let w = within_said a (n + m) k e in
          ⊎_elim (λ (q : a + n ≤ k). or_right (within a n k) _ (within_true (a + n) m k q (omega arith)))
          (λ (q : k < a + n). or_left _ (within (a + n) m k) (within_true a n k (omega arith) q))
          (le_or_lt (a + n) k)

  -- the same of a loop that stores f 0, f 1, .. from a on
  pub record Filling (a n : ℕ) (f : ℕ → A) (d out : List A) : Type 0 where
    pub len : length out ≡ length d
    pub is : out ≡ fill_at a n f d

  pub filling : (a n : ℕ) (f : ℕ → A) (d out : List A) → out ≡ fill_at a n f d → Filling a n f d out
  filling a n f d out e = record { len = ap length e ∙ length_fill_at a n f d; is = e }

  pub filling_none : (a : ℕ) (f : ℕ → A) (d : List A) → Filling a 0 f d d
  filling_none a f d = filling a 0 f d d (sym (fill_at_none a f d))

  pub filling_more : {a n : ℕ} {f : ℕ → A} {d out : List A} → Filling a n f d out → Filling a (n + 1) f d (set out (a + n) (f n))
  filling_more {a} {n} {f} {d} {out} h =
      filling a (n + 1) f d (set out (a + n) (f n)) (ap (λ (l : List A). set l (a + n) (f n)) h.is ∙ fill_at_put a n f d)

  pub filling_piece : {a n : ℕ} (m : ℕ) {f : ℕ → A} (g : ℕ → A) {d mid : List A} (out : List A) → Filling a n f d mid
      → out ≡ fill_at (a + n) m g mid → ((j : ℕ) → j < m → g j ≡ f (n + j)) → Filling a (n + m) f d out
  filling_piece {a} {n} m {f} g {d} {mid} out h e agree =
      filling a (n + m) f d out
      (e ∙ ap (λ (l : List A). fill_at (a + n) m g l) h.is ∙ fill_at_piece a n m f g f d (λ j b. refl) agree)

  pub filling_all : {n : ℕ} {f : ℕ → A} {d out : List A} → Filling 0 n f d out → length d ≡ n → out ≡ tabulate n f
  filling_all {n} {f} {d} h e = h.is ∙ fill_at_all n f d e
