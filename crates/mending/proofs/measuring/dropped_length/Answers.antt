use Rattle.mending.specs.Laws.Counting.{dropped_told}
use Rattle.mending.proofs.measuring.dropped_length.Goals as goal

pub returns : goal.returns
returns c = dropped_told c.args.number c.args.bytes c.number_length.result c.more.result c.number_length.ensures.0 c.more.ensures
