-- `put_next` meets its contract: the two bytes of the tag to come are put into the port's row; past the state all stays.
use mathlib.Core.Path.{refl}
use native.Mathlib.Omega.{arith}
use Rattle.rows.specs.Laws.Bytes.{next_put, next_beyond}
use Rattle.rows.specs.Laws.Records.{high_byte}
use Rattle.rows.proofs.step.put_next.Goals as goal

pub returns-then-at-state : goal.returns-then-at-state
returns-then-at-state c =
    rw (c.to_be_bytes-bytes.ensures, high_byte c.args.next (omega arith)) (next_put _ _ _ _ c.if-at-state.true c.is_whole.ensures refl)

pub returns-else-at-state : goal.returns-else-at-state
returns-else-at-state c = next_beyond _ _ _ c.if-at-state.false
