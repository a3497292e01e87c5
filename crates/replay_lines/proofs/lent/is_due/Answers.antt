use Rattle.std.proofs.Common.{sym, length-take-le}
use Rattle.replay_lines.proofs.lent.is_due.Goals as goal

pub slice_bounds-is_due_in-end : goal.slice_bounds-is_due_in-end
slice_bounds-is_due_in-end c = sym (length-take-le c.args.count c.args.rows.now c.requires)
