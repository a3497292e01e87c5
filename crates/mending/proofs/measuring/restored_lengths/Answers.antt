use Rattle.mending.specs.Laws.Counting.{lengths_by_lem}
use Rattle.mending.proofs.measuring.restored_lengths.Goals as goal

pub returns : goal.returns
returns c =
    lengths_by_lem c.args.before c.args.after c.args.numbers c.restored_length.result c.restored_length-2.result c.restored_length-3.result c.is_first-first.result c.is_second-second.result c.is_third-third.result
    c.restored_length.ensures.0 c.restored_length-2.ensures.0 c.restored_length-3.ensures.0 c.is_first-first.ensures c.is_second-second.ensures c.is_third-third.ensures
