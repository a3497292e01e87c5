-- A flagged frame on every port, in port order: so far the rows are those with the ports below flagged.
use mathlib.Core.Path.{◌≡◌}
use Rattle.receiver.specs.Laws.Anew.{flagged_ports}
use Rattle.receiver.proofs.flagging.flag_ports.Given as goal

abbrev pub invariant-loop-port : goal.invariant-loop-port
invariant-loop-port l = l.state ≡ flagged_ports l.store l.port l.initial.state
