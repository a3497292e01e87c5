use Rattle.packet.specs.Laws.Counting.{counts_later}
use Rattle.step.proofs.steady.is_counted.Goals as goal

pub returns-then-tag-gt1 : goal.returns-then-tag-gt1
returns-then-tag-gt1 c = counts_later _ _ c.if-tag-gt1.true
