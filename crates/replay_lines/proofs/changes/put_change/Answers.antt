use Rattle.replay_lines.proofs.Printing.{change_none, change_some}
use Rattle.replay_lines.proofs.changes.put_change.Goals as goal

pub returns-then-old-new : goal.returns-then-old-new
returns-then-old-new c = change_none c.args.port c.args.old c.args.new c.if-old-new.true _ _

pub returns : goal.returns
returns c = change_some c.args.port c.args.old c.args.new c.if-old-new.false c.put_state.ensures
