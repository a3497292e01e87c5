use Rattle.mending.specs.Laws.Whole.{lengths_done, lengths_refused, lines_within}
use Rattle.mending.proofs.mend_lengths.Goals as goal

pub returns-then-start-ne0 : goal.returns-then-start-ne0
returns-then-start-ne0 c = lengths_refused c.args.recording.now c.opened-start.result c.opened-start.ensures c.if-start-ne0.true c.refused.result c.refused.ensures

pub lengths_from-requires : goal.lengths_from-requires
lengths_from-requires c = lines_within c.args.recording.now c.opened-start.result c.opened-start.ensures c.if-start-ne0.false

pub returns : goal.returns
returns c = lengths_done c.args.recording.now c.opened-start.result c.opened-start.ensures c.if-start-ne0.false c.lengths_from.result c.lengths_from.ensures
