use Rattle.std.proofs.Common.{◌∙◌}
use Rattle.sender.specs.Table.{slot_count}
use Rattle.cards.proofs.parts.size.Goals as goal

pub returns : goal.returns
unfolding slot_count
returns c = c.from.ensures ∙ c.size_byte.ensures
