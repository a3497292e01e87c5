-- `pass_ports` meets its contract. By the loop: the epoch has passed of the first i ports.

use mathlib.Core.Path.{◌≡◌}
use Rattle.phases.specs.ByTable.{passed_ports_with}
use Rattle.phases.proofs.passing.pass_ports.Given as goal

abbrev pub invariant-loop-i : goal.invariant-loop-i
invariant-loop-i l = (l.state ≡ passed_ports_with l.table l.group l.store l.i l.initial.state)
