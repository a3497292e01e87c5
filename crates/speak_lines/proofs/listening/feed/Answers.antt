use Rattle.std.proofs.Common.{◌∙◌}
use Rattle.speak_lines.specs.Theorems.Running.{listener_fed, listener_said}
use Rattle.speak_lines.proofs.listening.feed.Goals as goal

pub returns : goal.returns
returns c = (c.feed_any.ensures.fed ∙ listener_fed c.args.listener c.args.out.now c.args.input.now, c.feed_any.ensures.bytes ∙ listener_said c.args.listener c.args.out.now c.args.input.now)
