-- `to_row` meets its contract: sixteen bytes by their places, the last four as they came (`listed`).
use mathlib.Core.Path.{refl}
use native.Mathlib.Omega.{arith}
use Rattle.rows.specs.Laws.Records.{high_byte, listed}
use Rattle.rows.specs.Group.{group_row}
use Rattle.rows.proofs.group.GroupRow.to_row.Goals as goal

pub returns : goal.returns
unfolding group_row
returns c = rw (c.to_be_bytes-payload.ensures, c.to_be_bytes-window.ensures, c.to_be_bytes-origin.ensures, high_byte c.args.self.payload (omega arith), high_byte c.args.self.window (omega arith), high_byte c.args.self.origin (omega arith), ← listed 4 c.args.self.spare (omega arith)) refl
