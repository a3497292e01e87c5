use Rattle.std.proofs.Common.{◌∙◌}
use Rattle.session_lines.proofs.Keeping.{keep_turn}
use Rattle.session_lines.proofs.kept.Kept.extend.Goals as goal

pub loop-byte-preserved : goal.loop-byte-preserved
loop-byte-preserved c = c.push.ensures ∙ keep_turn c.args.self.now c.loop-byte.self c.args.bytes.now c.loop-byte.byte-index c.loop-byte-test.true c.loop-byte.invariant
