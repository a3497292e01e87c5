use Rattle.std.proofs.Common.{◌≡◌, ◌+◌, refl, arith}
use Rattle.ground.specs.Drawn.{filling_all, filling_more, filling_none}
use Rattle.replay_lines.specs.Output.{state_at, states_in}
use Rattle.replay_lines.proofs.changes.states_in.Goals as goal

pub loop-port-init : goal.loop-port-init
loop-port-init c = (refl, filling_none 0 (state_at c.args.kind c.args.rows.now) _)

pub loop-port-preserved : goal.loop-port-preserved
loop-port-preserved c =
    let z : 0 + c.loop-port.port ≡ c.loop-port.port = omega arith in
    (c.loop-port.invariant.0, rw c.state_at.ensures (rw z at (filling_more c.loop-port.invariant.1)))

pub returns : goal.returns
unfolding states_in
returns c =
    let e : c.loop-port.port ≡ 64 = omega arith in
    filling_all (rw e at c.loop-port.invariant.1) c.loop-port.invariant.0
