use Rattle.std.proofs.Common.{◌∙◌, sym}
use Rattle.cards.specs.Laws.Seeing.{slot_low}
use Rattle.cards.proofs.parts.check_slot.Goals as goal

pub returns-then-is_slot-clause-within : goal.returns-then-is_slot-clause-within
returns-then-is_slot-clause-within c = slot_low c.args.card c.args.group c.args.slot (sym c.is_slot.ensures ∙ c.if-is_slot.true)
