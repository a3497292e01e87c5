use Rattle.std.proofs.Common.{arith}
use Rattle.replay_lines.specs.Output.{state_line}
use Rattle.replay_lines.proofs.Printing.{state_line_le}
use Rattle.replay_lines.proofs.changes.put_state.Goals as goal

pub put_port-requires : goal.put_port-requires
unfolding state_line
put_port-requires c = let l = state_line_le c.args.port c.args.state (omega arith) in omega arith

pub returns : goal.returns
unfolding state_line
returns c = c.put_port.ensures
