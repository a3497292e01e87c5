-- 4 before 9: what is out of range leaves an empty group, anything else is a start with sizes.
-- Ports, P and W lose nothing in becoming small numbers, because right sizes are small (`right_sizes`, `window_most`).
use mathlib.Core.Path.{sym, ◌∙◌}
use native.Mathlib.Omega.{arith}
use Rattle.receiver.proofs.Sizes.{window_most}
use Rattle.receiver.proofs.Started.{right_sizes}
use Rattle.receiver.proofs.starting.start_as.Goals as goal

pub overflow_cast-count : goal.overflow_cast-count
overflow_cast-count c = omega (arith, (right_sizes c.args.kind c.args.count c.args.payload c.args.window c.args.hold_off.now c.args.restore.now (sym c.is_right.ensures ∙ c.if-is_right.true)).few_ports)

pub overflow_cast-payload : goal.overflow_cast-payload
overflow_cast-payload c = omega (arith, (right_sizes c.args.kind c.args.count c.args.payload c.args.window c.args.hold_off.now c.args.restore.now (sym c.is_right.ensures ∙ c.if-is_right.true)).few_bytes)

pub overflow_cast-window : goal.overflow_cast-window
overflow_cast-window c = omega (arith, window_most c.args.kind c.args.count c.args.payload c.args.window (right_sizes c.args.kind c.args.count c.args.payload c.args.window c.args.hold_off.now c.args.restore.now (sym c.is_right.ensures ∙ c.if-is_right.true)))
