use Rattle.std.proofs.Common.{◌∙◌}
use Rattle.session_lines.specs.Theorems.Running.{session_ended, session_finished}
use Rattle.session_lines.proofs.session.finish.Goals as goal

pub returns : goal.returns
returns c = (c.finish_any.ensures.fed ∙ session_finished c.args.session c.args.out.now, c.finish_any.ensures.bytes ∙ session_ended c.args.session c.args.out.now)
