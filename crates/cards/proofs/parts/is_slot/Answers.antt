use Rattle.std.proofs.Common.{lt-ltb, le-ltb}
use Rattle.cards.specs.Parts.{is_slot}
use Rattle.cards.proofs.parts.is_slot.Goals as goal

pub returns-then-group-lt2 : goal.returns-then-group-lt2
unfolding is_slot
returns-then-group-lt2 c = rw (lt-ltb c.args.group 2 c.if-group-lt2.true, c.size.ensures, c.sender_of.ensures)

pub returns-else-group-lt2 : goal.returns-else-group-lt2
unfolding is_slot
returns-else-group-lt2 c = rw (le-ltb c.args.group 2 c.if-group-lt2.false)
