use Rattle.cards.specs.Parts.{is_used}
use Rattle.cards.proofs.parts.is_used.Goals as goal

pub returns : goal.returns
unfolding is_used
returns c = rw (c.is_member.ensures, c.sender_of-sender.ensures)
