use Rattle.std.proofs.Common.{◌≡◌, length}
use Rattle.ground.specs.Drawn.{Filling}
use Rattle.replay_lines.specs.Output.{state_at}
use Rattle.replay_lines.proofs.changes.states_in.Given as goal

abbrev pub invariant-loop-port : goal.invariant-loop-port
invariant-loop-port l = (length l.initial.states ≡ 64) × Filling 0 l.port (state_at l.kind l.rows) l.initial.states l.states
