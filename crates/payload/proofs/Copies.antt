-- What a copy is of a member alone.
use mathlib.Core.Path.{◌≡◌, sym, ap, ap₂, ◌∙◌}
use mathlib.Core.List.{List}
use Prim.Native.Nat.{ℕ, ◌+◌, ◌*◌, ◌/◌, ◌%◌, ◌≤◌, ◌<◌}
use native.Mathlib.Omega.{arith}
use lib.Arith.{digits_div, digits_mod}
use lib.ListN.{length, get_or}
use borrow.Author.Tests.{le-leb, lt-leb}
use Rattle.ground.specs.Drawn.{fill_at, fill_at_all, fill_at_ext}
use Rattle.ground.specs.Table.{tabulate_ext}
use Rattle.payload.specs.Joining.{ranked_byte, started_byte}
use Rattle.payload.specs.Laying.{laid}
use Rattle.payload.specs.Order.{group_byte, group_frame, member_byte}
use Rattle.payload.specs.Spreading.{all_members}

-- bytes that end within the slice, and those that do not
pub laid_in : (from : List ℕ) (place : ℕ) (to out : List ℕ) → place + length from ≤ length to → out ≡ fill_at place (length from) (λ j. get_or from (0 + j) 0) to
    → out ≡ laid place from to
laid_in from place to out h e =
    e ∙ rw (le-leb (place + length from) (length to) h)
    (fill_at_ext place (length from) (λ j. get_or from (0 + j) 0) (λ j. get_or from j 0) to (λ j b. let i : 0 + j ≡ j = omega arith in ap (λ (k : ℕ). get_or from k 0) i))

pub laid_none : (from : List ℕ) (place : ℕ) (to : List ℕ) → length to < place + length from → to ≡ laid place from to
laid_none from place to h = rw (lt-leb (place + length from) (length to) h)

-- byte p of the group frame of a member alone is its byte p
pub one_byte : (m : ℕ → ℕ → ℕ) (p : ℕ) → group_byte 1 m p ≡ m 0 p
one_byte m p =
    let r : p % 1 ≡ 0 = omega arith in
    let j : p / 1 ≡ p = omega arith in
    ap₂ m r j

module _ (X P : ℕ) (one : X ≡ 1) where
  pub one_times : X * P ≡ P
  one_times = rw one (omega arith)

  pub one_joined : (members d out : List ℕ) → length d ≡ X * P → out ≡ fill_at 0 P (λ j. get_or members (0 + j) 0) d → out ≡ group_frame X P (ranked_byte P members)
  one_joined members d out h e =
      let f : ℕ → ℕ = λ j. get_or members (0 + j) 0 in
      e ∙ fill_at_all P f d (h ∙ one_times) ∙ rw (one_times, one) (tabulate_ext P f (group_byte 1 (ranked_byte P members)) same)
    where
      same : (k : ℕ) → k < P → get_or members (0 + k) 0 ≡ group_byte 1 (ranked_byte P members) k
      same k b =
          let i : 0 + k ≡ 0 * P + k = omega arith in
          ap (λ (j : ℕ). get_or members j 0) i ∙ sym (one_byte (ranked_byte P members) k)

  pub one_spread : (frame d out : List ℕ) → length d ≡ X * P → out ≡ fill_at 0 P (λ j. get_or frame (0 + j) 0) d → out ≡ all_members X P frame
  one_spread frame d out h e =
      let f : ℕ → ℕ = λ j. get_or frame (0 + j) 0 in
      e ∙ fill_at_all P f d (h ∙ one_times) ∙ rw (one_times, one) (tabulate_ext P f (λ k. member_byte 1 frame (k / P) (k % P)) same)
    where
      same : (k : ℕ) → k < P → get_or frame (0 + k) 0 ≡ member_byte 1 frame (k / P) (k % P)
      same k b =
          let i : 0 + k ≡ k * 1 + 0 = omega arith in
          let z : k ≡ 0 * P + k = omega arith in
          let q : k / P ≡ 0 = ap (λ (j : ℕ). j / P) z ∙ digits_div 0 b in
          let r : k % P ≡ k = ap (λ (j : ℕ). j % P) z ∙ digits_mod 0 b in
          rw (q, r) (ap (λ (j : ℕ). get_or frame j 0) i)

  pub one_from : (starts store : List ℕ) (place : ℕ) (d out : List ℕ) → out ≡ fill_at place P (λ j. get_or store (get_or starts 0 0 + j) 0) d
      → out ≡ fill_at place (X * P) (group_byte X (started_byte starts store)) d
  one_from starts store place d out e =
      e ∙ rw (one_times, one) (fill_at_ext place P (λ j. get_or store (get_or starts 0 0 + j) 0) (group_byte 1 (started_byte starts store)) d (λ j b. sym (one_byte (started_byte starts store) j)))
