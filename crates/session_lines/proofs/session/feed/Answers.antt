use Rattle.std.proofs.Common.{◌∙◌}
use Rattle.session_lines.specs.Theorems.Running.{session_fed, session_said}
use Rattle.session_lines.proofs.session.feed.Goals as goal

pub returns : goal.returns
returns c = (c.feed_any.ensures.fed ∙ session_fed c.args.session c.args.out.now c.args.input.now, c.feed_any.ensures.bytes ∙ session_said c.args.session c.args.out.now c.args.input.now)
