-- A group frame drawn member by member, and members spread one after the other.
use mathlib.Core.Path.{◌≡◌, refl, ◌∙◌}
use mathlib.Core.List.{List}
use mathlib.Core.Bool.{true, ◌&&◌}
use Prim.Native.Nat.{ℕ, ◌+◌, ◌-◌, ◌*◌, ◌/◌, ◌%◌, ◌≤◌, ◌<◌}
use native.Mathlib.Nat.{mul-le-mul_right, mul_comm, suc-mul, zero-add}
use native.Mathlib.Numerals.{add-one}
use native.Mathlib.Omega.{arith}
use lib.Arith.{digits_div, digits_mod}
use lib.Dec.{leb}
use lib.ListN.{length, get_or}
use borrow.Author.Tests.{lt-ltb, le-ltb, leb-true}
use Rattle.ground.specs.Drawn.{drawn, drawn_by, fill_at, Drawing, drawing_then, within, fill_at_all, Filling, filling_piece}
use Rattle.ground.specs.Table.{tabulate, tabulate_ext}
use Rattle.ground.specs.Truth.{and_left, and_right}
use Rattle.payload.specs.Inner.Area.{area}
use Rattle.payload.specs.Order.{group_byte, group_frame, member_byte, member_frame}
use Rattle.payload.specs.Joining.{ranked_byte}
use Rattle.payload.specs.Laws.Ranks.{ranked}
use Rattle.payload.specs.Spreading.{all_members}
use Rattle.payload.proofs.Areas.{area_said, area_columns, area_all}

module _ (X P place : ℕ) (m : ℕ → ℕ → ℕ) where
  -- one rank more
  pub rank_more : (r : ℕ) (g : ℕ → ℕ) {d mid : List ℕ} (out : List ℕ) → Drawing (area X place 0 P 0 r) (λ k. group_byte X m (k - place)) d mid
      → out ≡ drawn (area X place 0 P r 1) (λ k. g ((k - place) / X)) mid → ((j : ℕ) → g j ≡ m r j)
      → Drawing (area X place 0 P 0 (r + 1)) (λ k. group_byte X m (k - place)) d out
  rank_more r g out h e agree =
      drawing_then (area X place 0 P 0 (r + 1)) (area X place 0 P r 1) (λ k. g ((k - place) / X)) out h e same
      (λ k. area_columns X place 0 P 0 r r 1 (r + 1) k (omega arith) (omega arith) (omega arith) (omega arith))
    where
      same : (k : ℕ) → area X place 0 P r 1 k ≡ true → g ((k - place) / X) ≡ m ((k - place) % X) ((k - place) / X)
      same k w =
          let s = area_said X place 0 P r 1 k w in
          let i : (k - place) % X ≡ r = omega arith in
          rw i (agree ((k - place) / X))

  -- every rank
  pub ranks_all : {d out : List ℕ} → Drawing (area X place 0 P 0 X) (λ k. group_byte X m (k - place)) d out
      → out ≡ fill_at place (X * P) (group_byte X m) d
  ranks_all {d} h =
      let f : ℕ → ℕ = λ k. group_byte X m (k - place) in
      h.is ∙ drawn_by (area X place 0 P 0 X) (within place (X * P)) f f d (λ k b. area_all X P place k) (λ k b w. refl)

pub member_in : (X P r : ℕ) → r < X → r * P + P ≤ X * P
member_in X P r h = omega (arith, mul-le-mul_right P h, suc-mul r P)

-- one member more, behind those before it
pub member_more : (X P r : ℕ) (g : List ℕ) {d mid : List ℕ} (out : List ℕ) → r < X → Filling 0 (r * P) (λ k. member_byte X g (k / P) (k % P)) d mid
    → out ≡ fill_at (r * P) P (λ j. get_or g (j * X + r) 0) mid → Filling 0 ((r + 1) * P) (λ k. member_byte X g (k / P) (k % P)) d out
member_more X P r g {d} {mid} out h f e =
    let n : (r + 1) * P ≡ r * P + P = rw (add-one, suc-mul) in
    rw n
    (filling_piece P (λ j. get_or g (j * X + r) 0) out f (rw zero-add e) agree)
  where
    agree : (j : ℕ) → j < P → get_or g (j * X + r) 0 ≡ member_byte X g ((r * P + j) / P) ((r * P + j) % P)
    agree j b = rw (digits_div r b, digits_mod r b, lt-ltb r X h)

-- one member, ranked or not
pub one_ranked : (X P r : ℕ) (g d out : List ℕ) → r < X → length d ≡ P → out ≡ fill_at 0 P (λ j. get_or g (j * X + r) 0) d → out ≡ member_frame X P g r
one_ranked X P r g d out h l e =
    e ∙ fill_at_all P (λ j. get_or g (j * X + r) 0) d l ∙ tabulate_ext P (λ j. get_or g (j * X + r) 0) (member_byte X g r) (λ j b. rw (lt-ltb r X h))

pub one_rankless : (X P r n : ℕ) (g out : List ℕ) → X ≤ r → n ≡ P → out ≡ tabulate n (λ j. 0) → out ≡ member_frame X P g r
one_rankless X P r n g out h l e = e ∙ rw l (tabulate_ext P (λ j. 0) (member_byte X g r) (λ j b. rw (le-ltb r X h)))

-- a frame is spread as its lines are joined
pub spread_by_lines : (X P : ℕ) (frame out : List ℕ) → out ≡ group_frame P X (ranked_byte X frame) → out ≡ all_members X P frame
spread_by_lines X P frame out e =
    e ∙ rw (mul_comm P X)
    (tabulate_ext (X * P) (group_byte P (ranked_byte X frame)) (λ k. member_byte X frame (k / P) (k % P)) same)
  where
    same : (k : ℕ) → k < X * P → group_byte P (ranked_byte X frame) k ≡ member_byte X frame (k / P) (k % P)
    same k b = rw (lt-ltb (k / P) X (ranked P X k (rw (mul_comm X P) at b)).byte)

pub blocks_fit : (X P : ℕ) → (leb 8 X && leb 16 P) ≡ true → (8 ≤ X) × (16 ≤ P)
blocks_fit X P e = (leb-true 8 X (and_left (leb 8 X) (leb 16 P) e), leb-true 16 P (and_right (leb 8 X) (leb 16 P) e))

-- three to seven members, and bytes enough for lines by eight bytes
pub overs_fit : (X P : ℕ) → ((leb 3 X && leb X 7) && leb 34 P) ≡ true → (3 ≤ X) × (X ≤ 7) × (34 ≤ P)
overs_fit X P e =
    let both = and_left (leb 3 X && leb X 7) (leb 34 P) e in
    (leb-true 3 X (and_left (leb 3 X) (leb X 7) both), leb-true X 7 (and_right (leb 3 X) (leb X 7) both), leb-true 34 P (and_right (leb 3 X && leb X 7) (leb 34 P) e))
