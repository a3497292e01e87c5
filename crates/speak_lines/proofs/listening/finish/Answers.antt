use Rattle.std.proofs.Common.{◌∙◌}
use Rattle.speak_lines.specs.Theorems.Running.{listener_ended, listener_finished}
use Rattle.speak_lines.proofs.listening.finish.Goals as goal

pub returns : goal.returns
returns c = (c.finish_any.ensures.fed ∙ listener_finished c.args.listener c.args.out.now, c.finish_any.ensures.bytes ∙ listener_ended c.args.listener c.args.out.now)
