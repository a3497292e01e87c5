-- Each port's new state into its row: after i turns the rows are those with the first i states put.
use mathlib.Core.Path.{◌≡◌}
use Rattle.receiver.specs.Report.{states_put}
use Rattle.receiver.proofs.states.put_states.Given as goal

abbrev pub invariant-loop-port : goal.invariant-loop-port
invariant-loop-port l = l.state ≡ states_put l.states l.port l.initial.state
