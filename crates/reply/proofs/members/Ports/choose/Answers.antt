use Rattle.std.proofs.Common.{◌∙◌}
use Rattle.reply.specs.Choosing.{holders}
use Rattle.reply.proofs.members.Ports.choose.Goals as goal

pub returns : goal.returns
unfolding holders
returns c = c.claim_all-2.ensures ∙ rw c.claim_all.ensures
