use mathlib.Core.Path.{refl}
use native.Mathlib.Omega.{arith}
use Rattle.rows.specs.Laws.Rows.{put_beyond}
use Rattle.rows.specs.Rows.{put_row}
use Rattle.rows.proofs.row.put_row.Goals as goal

pub returns-then-at-state : goal.returns-then-at-state
unfolding put_row
returns-then-at-state c = refl

pub returns-else-at-state : goal.returns-else-at-state
returns-else-at-state c = put_beyond _ _ _ (omega arith)
