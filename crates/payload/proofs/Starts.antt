-- Where members start: up to eight starts in a list of their own, and those of members that lie one after the other.
use mathlib.Core.Path.{◌≡◌, ap, ◌∙◌}
use mathlib.Core.List.{List}
use Prim.Native.Nat.{ℕ, ◌+◌, ◌-◌, ◌*◌, ◌/◌, ◌%◌, ◌≤◌, ◌<◌, min}
use native.Mathlib.Omega.{arith}
use lib.ListN.{length, get_or}
use Rattle.ground.specs.Drawn.{fill_at, fill_at_all}
use Rattle.ground.specs.Table.{tabulate, tabulate_ext, get_or_tabulate, length_tabulate}
use Rattle.payload.specs.Inner.Block.{Rows}
use Rattle.payload.specs.Joining.{ranked_byte, started_byte}
use Rattle.payload.specs.Laws.Ranks.{ranked}
use Rattle.payload.specs.Order.{group_byte, group_frame}
use Rattle.payload.proofs.Frames.{member_in}

-- the first X of eight starts, behind which the last one is repeated
abbrev pub few_of : (X : ℕ) (starts : List ℕ) → List ℕ
few_of X starts = tabulate 8 (λ r. get_or starts (min r (X - 1)) 0)

module _ (X : ℕ) (starts own : List ℕ) (are : own ≡ few_of X starts) where
  pub own_count : length own ≡ 8
  own_count = ap length are ∙ length_tabulate 8 (λ r. get_or starts (min r (X - 1)) 0)

  own_at : (r : ℕ) → r < 8 → get_or own r 0 ≡ get_or starts (min r (X - 1)) 0
  own_at r b = ap (λ (s : List ℕ). get_or s r 0) are ∙ get_or_tabulate 8 (λ i. get_or starts (min i (X - 1)) 0) r 0 b

  pub own_in_lem : (P n : ℕ) → 0 < X → ((r : ℕ) → r < X → get_or starts r 0 + P ≤ n) → (r : ℕ) → r < 8 → get_or own r 0 + P ≤ n
  own_in_lem P n pos fit r b =
      let low : min r (X - 1) < X = omega arith in
      omega (arith, own_at r b, fit (min r (X - 1)) low)

  -- of the rows that they give, the first X are the members'
  pub own_rows_lem : (h w j : ℕ) (store before q : List ℕ) → X ≤ h → h ≤ 8 → Rows h w (started_byte own store) 0 j before q → Rows X w (started_byte starts store) 0 j before q
  own_rows_lem h w j store before q all few rows = record { len = rows.len; is = are_rows }
    where
      are_rows : (l i : ℕ) → l < X → i < w → get_or q (l * w + i) 0 ≡ started_byte starts store (0 + l) (j + i)
      are_rows l i hl hi =
          let low : 0 + l < 8 = omega arith in
          let same : min (0 + l) (X - 1) ≡ 0 + l = omega arith in
          rows.is l i (omega arith) hi
          ∙ ap (λ (s : ℕ). get_or store (s + (j + i)) 0) (own_at (0 + l) low ∙ ap (λ (r : ℕ). get_or starts r 0) same)

-- members that lie one after the other start at multiples of P
module _ (X P n : ℕ) (members starts : List ℕ) (all : X ≤ n) (are : starts ≡ tabulate n (λ i. i * P)) where
  starts_at : (r : ℕ) → r < X → get_or starts r 0 ≡ r * P
  starts_at r b = ap (λ (s : List ℕ). get_or s r 0) are ∙ get_or_tabulate n (λ i. i * P) r 0 (omega arith)

  pub starts_in : length members ≡ X * P → (r : ℕ) → r < X → get_or starts r 0 + P ≤ length members
  starts_in long r b = omega (arith, long, member_in X P r b, starts_at r b)

  pub started_ranked : (d out : List ℕ) → length d ≡ X * P → out ≡ fill_at 0 (X * P) (group_byte X (started_byte starts members)) d → out ≡ group_frame X P (ranked_byte P members)
  started_ranked d out long e =
      e ∙ fill_at_all (X * P) (group_byte X (started_byte starts members)) d long
      ∙ tabulate_ext (X * P) (group_byte X (started_byte starts members)) (group_byte X (ranked_byte P members))
      (λ k b. ap (λ (s : ℕ). get_or members (s + k / X) 0) (starts_at (k % X) (ranked X P k b).rank))
