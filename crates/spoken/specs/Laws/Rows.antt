-- Rows compared by a test.
use Rattle.std.specs.Prelude.{◌≡◌, true, ℕ, eqb}
use Rattle.std.proofs.Common.{◌∙◌, ap, eq-eqb, eqb-true}
use Rattle.ground.specs.Truth.{and-true, and_left, and_right}
use Rattle.sender.specs.declared.board.Row.{Row}
use Rattle.spoken.specs.Changes.{same_row}

abbrev row : ℕ → ℕ → Row
row w n = record { word = record { 0 = w }; number = n }

pub same_row_lem : (a b : Row) → same_row a b ≡ true → a ≡ b
same_row_lem a b e =
    let w = eqb-true a.word.0 b.word.0 (and_left (eqb a.word.0 b.word.0) (eqb a.number b.number) e) in
    let n = eqb-true a.number b.number (and_right (eqb a.word.0 b.word.0) (eqb a.number b.number) e) in
    ap (λ (k : ℕ). row k a.number) w ∙ ap (λ (k : ℕ). row b.word.0 k) n

pub row_same : (a b : Row) → a ≡ b → same_row a b ≡ true
row_same a b e =
    and-true (eqb a.word.0 b.word.0) (eqb a.number b.number) (eq-eqb a.word.0 b.word.0 (ap (λ (r : Row). r.word.0) e))
    (eq-eqb a.number b.number (ap (λ (r : Row). r.number) e))
