use native.Mathlib.Omega.{arith}
use Rattle.cards.proofs.Rows.{row_with}
use Rattle.cards.proofs.owners.with_owner.Goals as goal

pub returns : goal.returns
returns c = row_with c.args.owners c.args.slot c.args.mark (omega arith) (omega arith)
