-- A record's row reads as that record.
use Rattle.std.specs.Prelude.{◌≡◌, refl, List, ℕ, ◌+◌, ◌*◌, ◌/◌, ◌%◌, ◌<◌, length, drop, get_or}
use Rattle.std.proofs.Common.{sym, ap, arith}
use Rattle.ground.specs.Table.{tabulate, tabulate_is}
use Rattle.rows.specs.declared.group.Group.{Group}
use Rattle.rows.specs.declared.member.Member.{Member}
use Rattle.rows.specs.declared.step.Step.{Step}
use Rattle.rows.specs.Group.{group_of, group_row}
use Rattle.rows.specs.Member.{member_of, member_row}
use Rattle.rows.specs.Step.{step_of, step_row}

halves : (n : ℕ) → n / 256 * 256 + n % 256 ≡ n
halves n = omega arith

high : (a b : ℕ) → b < 256 → (a * 256 + b) / 256 ≡ a
high a b h = omega arith

low : (a b : ℕ) → b < 256 → (a * 256 + b) % 256 ≡ b
low a b h = omega arith

-- the higher byte of a number of two
pub high_byte : (n : ℕ) → n < 65536 → n / 256 % 256 ≡ n / 256
high_byte n h = omega arith

pub group_back : (g : Group) → group_of (group_row g) ≡ g
unfolding group_of group_row
group_back g = simp halves

pub step_back : (q : Step) → step_of (step_row q) ≡ q
unfolding step_of step_row
step_back q = simp halves

pub member_back : (m : Member) → member_of (member_row m) ≡ m
unfolding member_of member_row
member_back m = simp halves

pub listed : (n : ℕ) (l : List ℕ) → length l ≡ n → tabulate n (λ k. get_or l k 0) ≡ l
listed n l e = sym (tabulate_is l n (λ k. get_or l k 0) 0 e (λ k h. refl))

-- And a row of sixteen bytes is the row of the record that it reads as.
module _ (row : List ℕ) (whole : length row ≡ 16) where
  -- its bytes from one on
  pub rest : (n : ℕ) → drop n (tabulate 16 (λ k. get_or row k 0)) ≡ drop n row
  rest n = ap (drop n) (listed 16 row whole)

  module _ (bytes : (j : ℕ) → j < 16 → get_or row j 0 < 256) where
    pub group_row_back : group_row (group_of row) ≡ row
    unfolding group_of group_row
    group_row_back =
        rw (
          high (get_or row 2 0) (get_or row 3 0) (bytes 3 (omega arith)),
          low (get_or row 2 0) (get_or row 3 0) (bytes 3 (omega arith)),
          high (get_or row 4 0) (get_or row 5 0) (bytes 5 (omega arith)),
          low (get_or row 4 0) (get_or row 5 0) (bytes 5 (omega arith)),
          high (get_or row 9 0) (get_or row 10 0) (bytes 10 (omega arith)),
          low (get_or row 9 0) (get_or row 10 0) (bytes 10 (omega arith)),
          ← rest 12,
        )
        (listed 16 row whole)

    pub step_row_back : step_row (step_of row) ≡ row
    unfolding step_of step_row
    step_row_back =
        rw (high (get_or row 3 0) (get_or row 4 0) (bytes 4 (omega arith)), low (get_or row 3 0) (get_or row 4 0) (bytes 4 (omega arith)), ← rest 12) (listed 16 row whole)

    pub member_row_back : member_row (member_of row) ≡ row
    unfolding member_of member_row
    member_row_back =
        rw (
          high (get_or row 6 0) (get_or row 7 0) (bytes 7 (omega arith)),
          low (get_or row 6 0) (get_or row 7 0) (bytes 7 (omega arith)),
          high (get_or row 8 0) (get_or row 9 0) (bytes 9 (omega arith)),
          low (get_or row 8 0) (get_or row 9 0) (bytes 9 (omega arith)),
          high (get_or row 10 0) (get_or row 11 0) (bytes 11 (omega arith)),
          low (get_or row 10 0) (get_or row 11 0) (bytes 11 (omega arith)),
          ← rest 12,
        )
        (listed 16 row whole)
