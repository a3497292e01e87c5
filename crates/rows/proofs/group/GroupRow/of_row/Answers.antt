-- `of_row` meets its contract: twelve bytes by their places, pairs of them as numbers, and the four spare ones as they stand (`rest`).
use native.Mathlib.Omega.{arith}
use Rattle.rows.specs.Laws.Records.{rest}
use Rattle.rows.specs.Group.{group_of}
use Rattle.rows.proofs.group.GroupRow.of_row.Goals as goal

pub returns : goal.returns
unfolding group_of
returns c = rw (c.from_be_bytes-3.ensures, c.from_be_bytes-2.ensures, c.from_be_bytes.ensures, ← rest c.args.row (omega arith) 12)
