-- `clear_ports` meets its contract. By the loop: the first i ports are cleared.

use mathlib.Core.Path.{◌≡◌}
use Rattle.phases.specs.Settling.{cleared_ports}
use Rattle.phases.proofs.settling.clear_ports.Given as goal

abbrev pub invariant-loop-i : goal.invariant-loop-i
invariant-loop-i l = (l.state ≡ cleared_ports l.group l.beginning l.i l.initial.state)
