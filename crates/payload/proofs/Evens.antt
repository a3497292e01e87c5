-- Blocks of two, four and eight rows, which are all columns of some lines.
use mathlib.Core.Path.{◌≡◌, refl, sym, ap, ap₂, ◌∙◌}
use mathlib.Core.Logic.{⊎_elim, ◌⊎◌, ◌≢◌}
use mathlib.Core.List.{List}
use mathlib.Core.Bool.{true, ◌&&◌}
use Prim.Native.Nat.{ℕ, ◌+◌, ◌-◌, ◌*◌, ◌/◌, ◌%◌, ◌≤◌, ◌<◌}
use native.Mathlib.Nat.{div-add-mod', mul-le-mul_right}
use native.Mathlib.Omega.{arith}
use lib.Arith.{digits_lt}
use lib.Dec.{eqb, leb}
use lib.ListN.{length, get_or}
use borrow.Author.Tests.{eqb-true, leb-true}
use Rattle.ground.specs.Drawn.{drawn, drawn_by, fill_at, length_fill_at, get_or_fill_at, within}
use Rattle.ground.specs.Truth.{and_left, and_right}
use Rattle.payload.specs.Inner.Area.{area}
use Rattle.payload.specs.Inner.Block.{Even, Rows, line_byte, row_byte}
use Rattle.payload.specs.Joining.{ranked_byte}
use Rattle.payload.specs.Order.{group_byte, group_frame}
use Rattle.payload.specs.Spreading.{all_members}
use Rattle.payload.proofs.Areas.{area_said, area_whole}

module _ (h w : ℕ) (even : Even h w) where
  pub even_two : h ≡ 2 → w ≡ 64
  even_two e =
      ⊎_elim (λ (s : (h ≡ 2) × (w ≡ 64)). s.1)
      (λ (s : ((h ≡ 4) × (w ≡ 32)) ⊎ ((h ≡ 8) × (w ≡ 16))). ⊎_elim (λ (t : (h ≡ 4) × (w ≡ 32)). let f = t.0 in absurd (omega arith)) (λ (t : (h ≡ 8) × (w ≡ 16)). let f = t.0 in absurd (omega arith)) s)
      even

  pub even_four : h ≡ 4 → w ≡ 32
  even_four e =
      ⊎_elim (λ (s : (h ≡ 2) × (w ≡ 64)). let f = s.0 in absurd (omega arith))
      (λ (s : ((h ≡ 4) × (w ≡ 32)) ⊎ ((h ≡ 8) × (w ≡ 16))). ⊎_elim (λ (t : (h ≡ 4) × (w ≡ 32)). t.1) (λ (t : (h ≡ 8) × (w ≡ 16)). let f = t.0 in absurd (omega arith)) s)
      even

  pub even_eight : h ≢ 2 → h ≢ 4 → (h ≡ 8) × (w ≡ 16)
  even_eight two four =
      ⊎_elim (λ (s : (h ≡ 2) × (w ≡ 64)). absurd (two s.0))
      (λ (s : ((h ≡ 4) × (w ≡ 32)) ⊎ ((h ≡ 8) × (w ≡ 16))). ⊎_elim (λ (t : (h ≡ 4) × (w ≡ 32)). absurd (four t.0)) (λ (t : (h ≡ 8) × (w ≡ 16)). t) s)
      even

  -- the bytes of a block, and bounds of its sides
  pub even_size : (h * w ≡ 128) × (w * h ≡ 128) × (2 ≤ h) × (16 ≤ w) × (w ≤ 64)
  even_size =
      ⊎_elim (λ (s : (h ≡ 2) × (w ≡ 64)). rw (s.0, s.1) (refl, refl, omega arith, omega arith, omega arith))
      (λ (s : ((h ≡ 4) × (w ≡ 32)) ⊎ ((h ≡ 8) × (w ≡ 16))). ⊎_elim (λ (t : (h ≡ 4) × (w ≡ 32)). rw (t.0, t.1) (refl, refl, omega arith, omega arith, omega arith)) (λ (t : (h ≡ 8) × (w ≡ 16)). rw (t.0, t.1) (refl, refl, omega arith, omega arith, omega arith)) s)
      even

  pub even_few : h ≤ 8
  even_few =
      ⊎_elim (λ (s : (h ≡ 2) × (w ≡ 64)). omega (arith, s.0))
      (λ (s : ((h ≡ 4) × (w ≡ 32)) ⊎ ((h ≡ 8) × (w ≡ 16))). ⊎_elim (λ (t : (h ≡ 4) × (w ≡ 32)). omega (arith, t.0)) (λ (t : (h ≡ 8) × (w ≡ 16)). omega (arith, t.0)) s)
      even

-- a run of bytes is all columns of n lines
pub lines_run : (X place j n size : ℕ) (t d out : List ℕ) → 0 < X → size ≡ n * X → out ≡ fill_at (place + j * X) size (λ i. get_or t (0 + i) 0) d
    → out ≡ drawn (area X place j n 0 X) (line_byte X X place j 0 t) d
lines_run X place j n size t d out pos all e =
    e
    ∙ drawn_by (within (place + j * X) size) (area X place j n 0 X) (λ k. get_or t (0 + (k - (place + j * X))) 0) (line_byte X X place j 0 t) d
    (λ k b. rw all (sym (area_whole X place j n k pos))) (λ k b s. same k s)
  where
    same : (k : ℕ) → area X place j n 0 X k ≡ true → get_or t (0 + (k - (place + j * X))) 0 ≡ line_byte X X place j 0 t k
    same k s =
        let a = area_said X place j n 0 X k s in
        let low = mul-le-mul_right X a.line_from in
        let back : (k - place) / X - j + j ≡ (k - place) / X = omega arith in
        let sum : ((k - place) / X - j) * X + j * X ≡ ((k - place) / X - j + j) * X = omega arith in
        let split : ((k - place) / X - j) * X + j * X ≡ (k - place) / X * X = sum ∙ ap (λ (l : ℕ). l * X) back in
        let at : 0 + (k - (place + j * X)) ≡ ((k - place) / X - j) * X + ((k - place) % X - 0) = omega (arith, div-add-mod' (k - place) X, low, split) in
        ap (λ (i : ℕ). get_or t i 0) at

-- a run of bytes is h rows of X bytes, the lines of a frame
pub run_rows : (X r h size : ℕ) (f : List ℕ) {d : List ℕ} (q : List ℕ) → q ≡ fill_at 0 size (λ i. get_or f (r * X + i) 0) d → size ≡ h * X → size ≤ length d
    → Rows h X (ranked_byte X f) r 0 d q
run_rows X r h size f {d} q e all long =
    record { len = ap length e ∙ length_fill_at 0 size (λ i. get_or f (r * X + i) 0) d; is = row }
  where
    row : (l i : ℕ) → l < h → i < X → get_or q (l * X + i) 0 ≡ get_or f ((r + l) * X + (0 + i)) 0
    row l i hl hi =
        let b : l * X + i < h * X = digits_lt hl hi in
        let z : l * X + i ≡ 0 + (l * X + i) = omega arith in
        let at : r * X + (l * X + i) ≡ (r + l) * X + (0 + i) = omega arith in
        ap₂ (λ (s : List ℕ) (k : ℕ). get_or s k 0) e z ∙ get_or_fill_at 0 size (λ i. get_or f (r * X + i) 0) d (l * X + i) 0 (omega arith) (omega arith) ∙ ap (λ (k : ℕ). get_or f k 0) at

-- the same lines, where their number is known
pub rows_as : (x h n m p r : ℕ) (q d out : List ℕ) → x ≡ n → h ≡ m → out ≡ drawn (area p 0 0 n r m) (row_byte n p 0 0 r q) d → out ≡ drawn (area p 0 0 x r h) (row_byte x p 0 0 r q) d
rows_as x h n m p r q d out ex eh e = rw (ex, eh) e

-- a number of members, and bytes enough for its blocks
pub even_fit : (X n P k : ℕ) → (eqb X n && leb k P) ≡ true → (X ≡ n) × (k ≤ P)
even_fit X n P k e = (eqb-true X n (and_left (eqb X n) (leb k P) e), leb-true k P (and_right (eqb X n) (leb k P) e))

-- what is said of n members, where X is n
module _ (X n P : ℕ) (same : X ≡ n) where
  pub joined_as : (m : ℕ → ℕ → ℕ) (out : List ℕ) → out ≡ group_frame n P m → out ≡ group_frame X P m
  joined_as m out e = e ∙ sym (ap (λ (k : ℕ). group_frame k P m) same)

  pub from_as : (m : ℕ → ℕ → ℕ) (place : ℕ) (d out : List ℕ) → out ≡ fill_at place (n * P) (group_byte n m) d → out ≡ fill_at place (X * P) (group_byte X m) d
  from_as m place d out e = e ∙ sym (ap (λ (k : ℕ). fill_at place (k * P) (group_byte k m) d) same)

  pub spread_as : (f out : List ℕ) → out ≡ all_members n P f → out ≡ all_members X P f
  spread_as f out e = e ∙ sym (ap (λ (k : ℕ). all_members k P f) same)

  pub times_as : X * P ≡ n * P
  times_as = ap (λ (k : ℕ). k * P) same
