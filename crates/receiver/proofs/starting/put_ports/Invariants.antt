-- Every port fresh: after i turns the rows are those with the first i ports fresh.
use mathlib.Core.Path.{◌≡◌}
use Rattle.receiver.specs.Starting.{fresh_ports}
use Rattle.receiver.proofs.starting.put_ports.Given as goal

abbrev pub invariant-loop-port : goal.invariant-loop-port
invariant-loop-port l = l.state ≡ fresh_ports l.kind l.hold_off l.restore l.port l.initial.state
