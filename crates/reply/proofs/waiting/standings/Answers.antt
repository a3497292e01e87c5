use Rattle.std.proofs.Common.{◌∙◌}
use Rattle.reply.specs.Waiting.{standings_of}
use Rattle.reply.proofs.waiting.standings.Goals as goal

pub returns : goal.returns
unfolding standings_of
returns c = c.standings_by.ensures ∙ rw (c.choose_in_rounds.ensures, c.of-group.ensures.0, c.of-group.ensures.1)
