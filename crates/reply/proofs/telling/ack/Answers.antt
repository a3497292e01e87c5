use Rattle.std.proofs.Common.{◌∙◌}
use Rattle.reply.specs.Telling.{ack_of}
use Rattle.reply.proofs.telling.ack.Goals as goal

pub returns : goal.returns
unfolding ack_of
returns c = c.turned.ensures ∙ rw (c.is_turning.ensures, c.of.ensures.0, c.of.ensures.1)
