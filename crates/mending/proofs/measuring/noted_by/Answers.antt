use Rattle.mending.specs.Laws.Counting.{noted_dropped, noted_kept}
use Rattle.mending.proofs.measuring.noted_by.Goals as goal

pub returns-then-read : goal.returns-then-read
returns-then-read c = let a = c.args in noted_kept a.read a.before a.after a.numbers a.number a.at c.restored_lengths.result c.if-read.true c.restored_lengths.ensures

pub returns : goal.returns
returns c = let a = c.args in noted_dropped a.read a.before a.after a.numbers a.number a.at c.dropped_length.result c.if-read.false c.dropped_length.ensures
