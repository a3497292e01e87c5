use Rattle.std.proofs.Common.{◌∙◌}
use Rattle.reply.specs.Telling.{ack_of, turns_over}
use Rattle.reply.proofs.telling.ack_alone.Goals as goal

pub returns : goal.returns
unfolding ack_of turns_over
returns c = c.turned.ensures ∙ rw (c.has_left.ensures, c.has_changed.ensures)
