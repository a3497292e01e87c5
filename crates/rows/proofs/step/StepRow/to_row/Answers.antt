-- `to_row` meets its contract: sixteen bytes by their places, the last four as they came (`listed`).
use mathlib.Core.Path.{refl}
use native.Mathlib.Omega.{arith}
use Rattle.rows.specs.Laws.Records.{high_byte, listed}
use Rattle.rows.specs.Step.{step_row}
use Rattle.rows.proofs.step.StepRow.to_row.Goals as goal

pub returns : goal.returns
unfolding step_row
returns c = rw (c.to_be_bytes-next.ensures, high_byte c.args.self.next (omega arith), ← listed 4 c.args.self.spare (omega arith)) refl
