use Rattle.std.proofs.Common.{◌≡◌, arith, rules}
use Rattle.replay_lines.proofs.Printing.{changes_none, one_more, room_for_one}
use Rattle.replay_lines.proofs.changes.put_changes.Goals as goal

pub loop-port-init : goal.loop-port-init
loop-port-init c = (search rules, search rules, changes_none c.args.before c.args.after c.args.said.now c.args.start)

pub put_change-at-requires : goal.put_change-at-requires
put_change-at-requires c = (omega (arith, c.requires.0), room_for_one c.args.before c.args.after c.loop-port.port c.loop-port.invariant.2 (omega (arith, c.requires.0)) c.requires.1)

pub loop-port-preserved : goal.loop-port-preserved
loop-port-preserved c = (c.loop-port.invariant.0, c.loop-port.invariant.1, one_more c.args.before c.args.after c.loop-port.port c.loop-port.invariant.2 c.put_change-at.ensures)

pub returns : goal.returns
returns c =
    let e : c.loop-port.port ≡ c.args.ports = omega arith in
    rw e at c.loop-port.invariant.2
