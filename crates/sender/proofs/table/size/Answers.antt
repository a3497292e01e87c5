use Rattle.sender.specs.Laws.Sizes.{size_le}
use Rattle.sender.specs.Table.{slot_count}
use Rattle.sender.proofs.table.size.Goals as goal

pub returns-clause-value : goal.returns-clause-value
unfolding slot_count
returns-clause-value c = c.size_of.ensures

pub returns-clause-within : goal.returns-clause-within
unfolding slot_count
returns-clause-within c = rw c.size_of.ensures (size_le c.args.count)
