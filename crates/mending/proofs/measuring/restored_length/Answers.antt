use Rattle.mending.specs.Laws.Counting.{restored_told, restored_untold}
use Rattle.mending.proofs.measuring.restored_length.Goals as goal

pub returns-then-is : goal.returns-then-is
returns-then-is c = rw c.if-is.true (restored_told c.args.number c.number_length.result c.number_length.ensures.0 c.number_length.ensures.1)

pub returns : goal.returns
returns c = rw c.if-is.false (restored_untold c.args.number)
