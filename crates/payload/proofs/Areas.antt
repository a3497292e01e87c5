-- Laws on lines and columns of a slice: an area is a run of places, areas are put together, and the whole frame is one.
use mathlib.Core.Path.{◌≡◌, sym, ap, ◌∙◌}
use mathlib.Core.Logic.{⊎_elim}
use mathlib.Core.Bool.{true, false, ◌&&◌, ◌||◌}
use Prim.Native.Nat.{ℕ, ◌+◌, ◌-◌, ◌*◌, ◌/◌, ◌%◌, ◌≤◌, ◌<◌}
use native.Mathlib.Nat.{mod-lt, div-add-mod', div-lt_iff_lt-mul, mul_comm, mul-le-mul_right, eq-zero-or-pos, zero-mul}
use native.Mathlib.Omega.{arith}
use lib.Arith.{digits_lt, digits_div, digits_mod}
use lib.Dec.{leb, eqb}
use borrow.Author.Tests.{leb-true, le-leb}
use Rattle.ground.specs.Drawn.{within, within_true, within_said, within_one}
use Rattle.ground.specs.Truth.{and-true, and_left, and_right, or_left, or_right, or_cases, same_test, fails, le_or_lt}
use Rattle.payload.specs.Inner.Area.{area}

-- k lies in the area: its line is (k - place) / X and its column (k - place) % X
pub record Lies (X place l n c m k : ℕ) : Type 0 where
  pub above : place ≤ k
  pub line_from : l ≤ (k - place) / X
  pub line_to : (k - place) / X < l + n
  pub column_from : c ≤ (k - place) % X
  pub column_to : (k - place) % X < c + m

module _ (X place l n c m k : ℕ) where
  pub area_said : area X place l n c m k ≡ true → Lies X place l n c m k
  unfolding area
  area_said e =
      let q : ℕ = (k - place) / X in
      let s : ℕ = (k - place) % X in
      let rest = and_right (leb place k) (within l n q && within c m s) e in
      let h = leb-true place k (and_left (leb place k) (within l n q && within c m s) e) in
      let i = within_said l n q (and_left (within l n q) (within c m s) rest) in
      let j = within_said c m s (and_right (within l n q) (within c m s) rest) in
      record { above = h; line_from = i.0; line_to = i.1; column_from = j.0; column_to = j.1 }

  pub area_true : Lies X place l n c m k → area X place l n c m k ≡ true
  unfolding area
  area_true h =
      let q : ℕ = (k - place) / X in
      let s : ℕ = (k - place) % X in
      and-true (leb place k) (within l n q && within c m s) (le-leb place k h.above)
      (and-true (within l n q) (within c m s) (within_true l n q h.line_from h.line_to) (within_true c m s h.column_from h.column_to))

pub in_frame : (X P j r : ℕ) → j < P → r < X → j * X + r < X * P
in_frame X P j r hj hr = rw (mul_comm X P) (digits_lt hj hr)

-- a part of one line is a run of places
pub area_run : (X place l c m k : ℕ) → c + m ≤ X → area X place l 1 c m k ≡ within (place + (l * X + c)) m k
area_run X place l c m k h = same_test (area X place l 1 c m k) (within (place + (l * X + c)) m k) to back
  where
    to : area X place l 1 c m k ≡ true → within (place + (l * X + c)) m k ≡ true
    to e =
        let s = area_said X place l 1 c m k e in
        let is : (k - place) / X ≡ l = omega arith in
        let whole = ap (λ (q : ℕ). q * X + (k - place) % X) (sym is) ∙ div-add-mod' (k - place) X in
        within_true (place + (l * X + c)) m k (omega arith) (omega arith)

    back : within (place + (l * X + c)) m k ≡ true → area X place l 1 c m k ≡ true
    back e =
        let w = within_said (place + (l * X + c)) m k e in
        let s : ℕ = k - place - l * X in
        let small : s < X = omega arith in
        let whole : k - place ≡ l * X + s = omega arith in
        let q : (k - place) / X ≡ l = ap (λ (i : ℕ). i / X) whole ∙ digits_div l small in
        let r : (k - place) % X ≡ s = ap (λ (i : ℕ). i % X) whole ∙ digits_mod l small in
        area_true X place l 1 c m k (omega arith)

-- the lines from l up to a, and those from b up to e, which meet or overlap
pub area_lines : (X place l n b i j c m k : ℕ) → l ≤ b → b ≤ l + n → l + n ≤ b + i → b + i ≡ l + j
    → (area X place l n c m k || area X place b i c m k) ≡ area X place l j c m k
area_lines X place l n b i j c m k h₁ h₂ h₃ h₄ = same_test (area X place l n c m k || area X place b i c m k) (area X place l j c m k) to back
  where
    to : (area X place l n c m k || area X place b i c m k) ≡ true → area X place l j c m k ≡ true
    to e =
        ⊎_elim (λ (g : area X place l n c m k ≡ true). let s = area_said X place l n c m k g in area_true X place l j c m k (omega arith))
        (λ (g : area X place b i c m k ≡ true). let s = area_said X place b i c m k g in area_true X place l j c m k (omega arith))
        (or_cases (area X place l n c m k) (area X place b i c m k) e)

    back : area X place l j c m k ≡ true → (area X place l n c m k || area X place b i c m k) ≡ true
    back e =
        let s = area_said X place l j c m k e in
        ⊎_elim (λ (g : b ≤ (k - place) / X). or_right (area X place l n c m k) _ (area_true X place b i c m k (omega arith)))
        (λ (g : (k - place) / X < b). or_left _ (area X place b i c m k) (area_true X place l n c m k (omega arith)))
        (le_or_lt b ((k - place) / X))

-- the same of columns
pub area_columns : (X place l n c m b i j k : ℕ) → c ≤ b → b ≤ c + m → c + m ≤ b + i → b + i ≡ c + j
    → (area X place l n c m k || area X place l n b i k) ≡ area X place l n c j k
area_columns X place l n c m b i j k h₁ h₂ h₃ h₄ = same_test (area X place l n c m k || area X place l n b i k) (area X place l n c j k) to back
  where
    to : (area X place l n c m k || area X place l n b i k) ≡ true → area X place l n c j k ≡ true
    to e =
        ⊎_elim (λ (g : area X place l n c m k ≡ true). let s = area_said X place l n c m k g in area_true X place l n c j k (omega arith))
        (λ (g : area X place l n b i k ≡ true). let s = area_said X place l n b i k g in area_true X place l n c j k (omega arith))
        (or_cases (area X place l n c m k) (area X place l n b i k) e)

    back : area X place l n c j k ≡ true → (area X place l n c m k || area X place l n b i k) ≡ true
    back e =
        let s = area_said X place l n c j k e in
        ⊎_elim (λ (g : b ≤ (k - place) % X). or_right (area X place l n c m k) _ (area_true X place l n b i k (omega arith)))
        (λ (g : (k - place) % X < b). or_left _ (area X place l n b i k) (area_true X place l n c m k (omega arith)))
        (le_or_lt b ((k - place) % X))

-- P lines of all X columns
pub area_all : (X P place k : ℕ) → area X place 0 P 0 X k ≡ within place (X * P) k
area_all X P place k = same_test (area X place 0 P 0 X k) (within place (X * P) k) to back
  where
    to : area X place 0 P 0 X k ≡ true → within place (X * P) k ≡ true
    to e =
        let s = area_said X place 0 P 0 X k e in
        let q : (k - place) / X < P = omega arith in
        let r : (k - place) % X < X = omega arith in
        let b : (k - place) / X * X + (k - place) % X < P * X = digits_lt q r in
        within_true place (X * P) k s.above (omega (arith, div-add-mod' (k - place) X, mul_comm X P))

    back : within place (X * P) k ≡ true → area X place 0 P 0 X k ≡ true
    back e =
        let w = within_said place (X * P) k e in
        ⊎_elim (λ (g : X ≡ 0). absurd (let z : X * P ≡ 0 = rw (g, zero-mul) in omega arith))
        (λ (g : 0 < X).
        let q : (k - place) / X < P = (div-lt_iff_lt-mul g).1 (omega (arith, mul_comm X P)) in
        let r = mod-lt (k - place) g in
        area_true X place 0 P 0 X k (omega arith))
        (eq-zero-or-pos X)

-- all columns of some lines are a run of places
pub area_whole : (X place l n k : ℕ) → 0 < X → area X place l n 0 X k ≡ within (place + l * X) (n * X) k
area_whole X place l n k pos = same_test (area X place l n 0 X k) (within (place + l * X) (n * X) k) to back
  where
    to : area X place l n 0 X k ≡ true → within (place + l * X) (n * X) k ≡ true
    to e =
        let s = area_said X place l n 0 X k e in
        let low = mul-le-mul_right X s.line_from in
        let r : (k - place) % X < X = omega arith in
        let high : (k - place) / X * X + (k - place) % X < (l + n) * X = digits_lt s.line_to r in
        within_true (place + l * X) (n * X) k (omega (arith, div-add-mod' (k - place) X, low)) (omega (arith, div-add-mod' (k - place) X, high))

    back : within (place + l * X) (n * X) k ≡ true → area X place l n 0 X k ≡ true
    back e =
        let w = within_said (place + l * X) (n * X) k e in
        let q : (k - place) / X < l + n = (div-lt_iff_lt-mul pos).1 (omega arith) in
        let r = mod-lt (k - place) pos in
        let whole = div-add-mod' (k - place) X in
        ⊎_elim (λ (g : l ≤ (k - place) / X). area_true X place l n 0 X k (omega arith))
        (λ (g : (k - place) / X < l). let b : (k - place) / X * X + (k - place) % X < l * X = digits_lt g r in absurd (omega arith))
        (le_or_lt l ((k - place) / X))

-- no line, no column
pub area_no_line : (X place l c m k : ℕ) → area X place l 0 c m k ≡ false
area_no_line X place l c m k = fails (area X place l 0 c m k) (λ e. let s = area_said X place l 0 c m k e in omega arith)

pub area_no_column : (X place l n c k : ℕ) → area X place l n c 0 k ≡ false
area_no_column X place l n c k = fails (area X place l n c 0 k) (λ e. let s = area_said X place l n c 0 k e in omega arith)

-- the line of a place
pub line_of : (X place j r : ℕ) → r < X → (place + (j * X + r) - place) / X ≡ j
line_of X place j r h = let e : place + (j * X + r) - place ≡ j * X + r = omega arith in rw e (digits_div j h)

-- one more line of a column, stored at its place
pub column_more : (X place j r k : ℕ) → r < X → (area X place 0 j r 1 k || eqb k (place + (j * X + r))) ≡ area X place 0 (j + 1) r 1 k
column_more X place j r k h =
    rw (within_one (place + (j * X + r)) k, ← area_run X place j r 1 k (omega arith)) (area_lines X place 0 j j 1 (j + 1) r 1 k (omega arith) (omega arith) (omega arith) (omega arith))
