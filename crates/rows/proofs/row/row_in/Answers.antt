use native.Mathlib.Omega.{arith}
use Rattle.rows.specs.Laws.Rows.{row_within, row_beyond}
use Rattle.rows.proofs.row.row_in.Goals as goal

pub returns-then-at-state : goal.returns-then-at-state
returns-then-at-state c = row_within _ _ (omega arith)

pub returns-else-at-state : goal.returns-else-at-state
returns-else-at-state c = row_beyond _ _ (omega arith)
