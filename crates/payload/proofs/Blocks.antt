-- A group frame drawn in blocks: rows gathered, a turned block stored, and blocks put together to lines and lines to the frame.
use mathlib.Core.Path.{◌≡◌, refl, sym, ap, ap₂, ◌∙◌}
use mathlib.Core.Logic.{⊎_elim}
use mathlib.Core.List.{List}
use mathlib.Core.Bool.{true, ◌||◌}
use Prim.Native.Nat.{ℕ, ◌+◌, ◌-◌, ◌*◌, ◌/◌, ◌%◌, ◌≤◌, ◌<◌}
use native.Mathlib.Nat.{div-add-mod', mul-le-mul_left, mul-le-mul_right, mul-one, one-mul, mul_comm, not-suc-le-zero}
use native.Mathlib.Omega.{arith}
use lib.Arith.{digits_lt, digits_div, digits_mod}
use lib.ListN.{length, get_or}
use Rattle.ground.specs.Drawn.{drawn, drawn_by, fill_at, length_fill_at, get_or_fill_at, get_or_before, Drawing, drawing_then, within}
use Rattle.ground.specs.Table.{get_or_tabulate}
use Rattle.ground.specs.Truth.{le_or_lt}
use Rattle.payload.specs.Inner.Area.{area}
use Rattle.payload.specs.Inner.Block.{Rows, line_byte, row_byte, turned}
use Rattle.payload.specs.Order.{group_byte}
use Rattle.payload.proofs.Areas.{area_said, area_run, area_lines, area_columns}
use Rattle.payload.proofs.Frames.{member_in}

-- no row is read
pub rows_none : (w : ℕ) (m : ℕ → ℕ → ℕ) (r j : ℕ) (d : List ℕ) → Rows 0 w m r j d d
rows_none w m r j d = record { len = refl; is = λ l i h b. absurd (not-suc-le-zero h) }

-- one row more
pub row_more : (l w r j : ℕ) (m : ℕ → ℕ → ℕ) (g : ℕ → ℕ) {d mid : List ℕ} (out : List ℕ) → l * w + w ≤ length d → Rows l w m r j d mid
    → out ≡ fill_at (l * w) w g mid → ((i : ℕ) → i < w → g i ≡ m (r + l) (j + i)) → Rows (l + 1) w m r j d out
row_more l w r j m g {d} {mid} out fits old e agree =
    record {
      len = ap length e ∙ length_fill_at (l * w) w g mid ∙ old.len;
      is = λ k i hk hi. ap (λ (q : List ℕ). get_or q (k * w + i) 0) e
          ∙ ⊎_elim (λ (u : l ≤ k). new k i hk hi u) (λ (u : k < l). get_or_before (l * w) w g mid (k * w + i) 0 (digits_lt u hi) ∙ old.is k i u hi) (le_or_lt l k);
    }
  where
    new : (k i : ℕ) → k < l + 1 → i < w → l ≤ k → get_or (fill_at (l * w) w g mid) (k * w + i) 0 ≡ m (r + k) (j + i)
    new k i hk hi u = let same : k ≡ l = omega arith in rw same (get_or_fill_at (l * w) w g mid i 0 hi (omega (arith, old.len)) ∙ agree i hi)

-- a row lies within the members that are read and within the block
pub record RowIn (n k p r l j w : ℕ) : Type 0 where
  pub from : (r + l) * p + j + w ≤ n
  pub line : r + l ≤ n
  pub to : l * w + w ≤ k

pub row_in_lem : (n k p r l j h w : ℕ) → 1 ≤ p → h * w ≤ k → l < h → (r + l) * p + (j + w) ≤ n → RowIn n k p r l j w
row_in_lem n k p r l j h w one fits hl row =
    record {
      from = omega (arith, row);
      line = omega (arith, row, mul-le-mul_left (r + l) one, mul-one (r + l));
      to = omega (arith, fits, member_in h w l hl);
    }

-- each row of a block of members that lie one after the other
pub ranked_in : (X P r j h w n : ℕ) → r + h ≤ X → j + w ≤ P → n ≡ X * P → (l : ℕ) → l < h → (r + l) * P + (j + w) ≤ n
ranked_in X P r j h w n hr hj e l hl = omega (arith, e, member_in X P (r + l) (omega arith))

-- a run of h bytes in one of w lines
pub record RunIn (n at l : ℕ) (h : ℕ) : Type 0 where
  pub run : at + h ≤ n
  pub line : l ≤ n

pub run_in : (X j w i r h n : ℕ) → (j + w) * X ≤ n → 1 ≤ h → r + h ≤ X → i < w → RunIn n ((j + i) * X + r) (j + i) h
run_in X j w i r h n fits hh hr hi =
    record {
      run = omega (arith, member_in (j + w) X (j + i) (omega arith));
      line = let one : 1 ≤ X = omega arith in omega (arith, member_in (j + w) X (j + i) (omega arith), mul-le-mul_left (j + i) one, mul-one (j + i));
    }

-- a block of h ranks from r on and w bytes from j on
pub record BlockIn (X P r j h w : ℕ) : Type 0 where
  pub members : (r + h) * P ≤ X * P
  pub lines : (j + w) * X ≤ X * P
  pub ranks : X ≤ X * P
  pub bytes : P ≤ X * P

pub block_in : (X P r j h w : ℕ) → 1 ≤ h → 1 ≤ w → r + h ≤ X → j + w ≤ P → BlockIn X P r j h w
block_in X P r j h w hh hw hr hj =
    let one : 1 ≤ P = omega arith in
    let rank : 1 ≤ X = omega arith in
    record {
      members = mul-le-mul_right P hr;
      lines = omega (arith, mul-le-mul_right X hj, mul_comm X P);
      ranks = omega (arith, mul-le-mul_left X one, mul-one X);
      bytes = omega (arith, mul-le-mul_right P rank, one-mul P);
    }

-- one line more of a block
pub line_more : (h X place j i r : ℕ) (q : List ℕ) {d mid : List ℕ} (out : List ℕ) → r + h ≤ X
    → Drawing (area X place j i r h) (line_byte h X place j r q) d mid → out ≡ fill_at (place + ((j + i) * X + r)) h (λ b. get_or q (i * h + b) 0) mid
    → Drawing (area X place j (i + 1) r h) (line_byte h X place j r q) d out
line_more h X place j i r q out fits old e =
    drawing_then (area X place j (i + 1) r h) (within at h) (λ k. get_or q (i * h + (k - at)) 0) out old e agree same
  where
    at : ℕ
    at = place + ((j + i) * X + r)

    agree : (k : ℕ) → within at h k ≡ true → get_or q (i * h + (k - at)) 0 ≡ line_byte h X place j r q k
    agree k w =
        let s = area_said X place (j + i) 1 r h k (rw (area_run X place (j + i) r h k fits) w) in
        let line : (k - place) / X ≡ j + i = omega arith in
        let whole = ap (λ (l : ℕ). l * X + (k - place) % X) (sym line) ∙ div-add-mod' (k - place) X in
        let first : i ≡ (k - place) / X - j = omega arith in
        let byte : k - at ≡ (k - place) % X - r = omega arith in
        ap₂ (λ (l b : ℕ). get_or q (l * h + b) 0) first byte

    same : (k : ℕ) → (area X place j i r h k || within at h k) ≡ area X place j (i + 1) r h k
    same k =
        rw (← area_run X place (j + i) r h k fits) (area_lines X place j i (j + i) 1 (i + 1) r h k (omega arith) (omega arith) (omega arith) (omega arith))

-- the first n of a turned block's lines
pub some_turned : (n h w X place j r : ℕ) (q t d out : List ℕ) → n ≤ w → t ≡ turned h w q → out ≡ drawn (area X place j n r h) (line_byte h X place j r t) d
    → out ≡ drawn (area X place j n r h) (row_byte w X place j r q) d
some_turned n h w X place j r q t d out few turns e =
    e
    ∙ drawn_by (area X place j n r h) (area X place j n r h) (line_byte h X place j r t) (row_byte w X place j r q) d (λ k b. refl)
    (λ k b s. let a = area_said X place j n r h k s in same ((k - place) / X - j) ((k - place) % X - r) (omega arith) (omega arith))
  where
    same : (l c : ℕ) → l < w → c < h → get_or t (l * h + c) 0 ≡ get_or q (c * w + l) 0
    same l c hl hc =
        ap (λ (s : List ℕ). get_or s (l * h + c) 0) turns
        ∙ get_or_tabulate (h * w) (λ k. get_or q (k % h * w + k / h) 0) (l * h + c) 0 (rw (mul_comm h w) (digits_lt hl hc))
        ∙ ap₂ (λ (a b : ℕ). get_or q (a * w + b) 0) (digits_mod l hc) (digits_div l hc)

-- a turned block
pub block_turned : (h w X place j r : ℕ) (q t d out : List ℕ) → t ≡ turned h w q → out ≡ drawn (area X place j w r h) (line_byte h X place j r t) d
    → out ≡ drawn (area X place j w r h) (row_byte w X place j r q) d
block_turned h w X place j r q t d out turns e = some_turned w h w X place j r q t d out (omega arith) turns e

module _ (X place : ℕ) (m : ℕ → ℕ → ℕ) where
  -- n bytes from j on of H ranks from r on, laid into the frame, are the frame's own
  pub some_is : (n H W j r : ℕ) (before q mid out : List ℕ) → n ≤ W → Rows H W m r j before q → out ≡ drawn (area X place j n r H) (row_byte W X place j r q) mid
      → out ≡ drawn (area X place j n r H) (λ k. group_byte X m (k - place)) mid
  some_is n H W j r before q mid out few rows e =
      e
      ∙ drawn_by (area X place j n r H) (area X place j n r H) (row_byte W X place j r q) (λ k. group_byte X m (k - place)) mid
      (λ k b. refl) (λ k b s. same k s)
    where
      same : (k : ℕ) → area X place j n r H k ≡ true → row_byte W X place j r q k ≡ m ((k - place) % X) ((k - place) / X)
      same k s =
          let a = area_said X place j n r H k s in
          let column : r + ((k - place) % X - r) ≡ (k - place) % X = omega arith in
          let line : j + ((k - place) / X - j) ≡ (k - place) / X = omega arith in
          rows.is ((k - place) % X - r) ((k - place) / X - j) (omega arith) (omega arith) ∙ ap₂ m column line

  -- a whole block, whose sides are known by other names
  pub block_is : (h w H W j r : ℕ) (before q mid out : List ℕ) → h ≡ H → w ≡ W → Rows H W m r j before q
      → out ≡ drawn (area X place j W r H) (row_byte W X place j r q) mid → out ≡ drawn (area X place j w r h) (λ k. group_byte X m (k - place)) mid
  block_is h w H W j r before q mid out high wide rows e = rw (high, wide) (some_is W H W j r before q mid out (omega arith) rows e)

  -- more columns of some lines, from b on
  pub columns_more : (l n a b i j : ℕ) {d mid : List ℕ} (out : List ℕ) → b ≤ a → a ≤ b + i → b + i ≡ j
      → Drawing (area X place l n 0 a) (λ k. group_byte X m (k - place)) d mid → out ≡ drawn (area X place l n b i) (λ k. group_byte X m (k - place)) mid
      → Drawing (area X place l n 0 j) (λ k. group_byte X m (k - place)) d out
  columns_more l n a b i j out h₁ h₂ h₃ old new =
      drawing_then (area X place l n 0 j) (area X place l n b i) (λ k. group_byte X m (k - place)) out old new (λ k w. refl)
      (λ k. area_columns X place l n 0 a b i j k (omega arith) (omega arith) (omega arith) (omega arith))

  -- more lines of some columns, from b on
  pub lines_more : (l n b i j c s : ℕ) {d mid : List ℕ} (out : List ℕ) → l ≤ b → b ≤ l + n → l + n ≤ b + i → b + i ≡ l + j
      → Drawing (area X place l n c s) (λ k. group_byte X m (k - place)) d mid → out ≡ drawn (area X place b i c s) (λ k. group_byte X m (k - place)) mid
      → Drawing (area X place l j c s) (λ k. group_byte X m (k - place)) d out
  lines_more l n b i j c s out h₁ h₂ h₃ h₄ old new =
      drawing_then (area X place l j c s) (area X place b i c s) (λ k. group_byte X m (k - place)) out old new (λ k w. refl)
      (λ k. area_lines X place l n b i j c s k h₁ h₂ h₃ h₄)
