-- A start that is answered 0, and what it leaves.
use Rattle.std.specs.Prelude.{◌≡◌, Bool, true, false, cond, List, ℕ, length}
use Rattle.std.proofs.Math.Path.{refl}
use Rattle.std.proofs.Common.{arith}
use Rattle.invariant.specs.Proofs.Kept.Start.{sized_rows_lem}
use Rattle.receiver.specs.Starting.{empty_group, fresh_ports, group_with, sized_answer, sized_fits, sized_rows, start_as_answer, start_as_rows, start_right}
use Rattle.rows.specs.Group.{put_group}
use Rattle.rows.specs.Rows.{rows_for}

module _ (kind count P W store : ℕ) (hold restore : List ℕ) (s : List (List ℕ)) where
  -- by whether its numbers and its lengths are right
  abbrev pub code_by : Bool → Bool → ℕ
  code_by a b = cond a (cond b 0 9) 4

  abbrev pub left_by : Bool → Bool → List (List ℕ)
  left_by a b = cond a (cond b (put_group (fresh_ports kind hold restore count s) (group_with kind count P W)) s) (put_group s (empty_group kind))

  pub record Accepted (left : List (List ℕ)) : Type 0 where
    pub rows : length s ≡ rows_for count
    pub fresh : left ≡ put_group (fresh_ports kind hold restore count s) (group_with kind count P W)

  by_accepted : (a b : Bool) → sized_fits count P W store hold restore (length s) ≡ b → code_by a b ≡ 0 → Accepted (left_by a b)
  by_accepted true true f z = record { rows = sized_rows_lem count P W store hold restore (length s) f; fresh = refl }
  by_accepted true false f z = absurd (omega arith)
  by_accepted false b f z = absurd (omega arith)

  pub accepted : start_as_answer kind count P W store hold restore (length s) ≡ 0 → Accepted (start_as_rows kind count P W store hold restore s)
  unfolding start_as_answer start_as_rows sized_answer sized_rows
  accepted z = by_accepted (start_right kind count P W hold restore) (sized_fits count P W store hold restore (length s)) refl z
