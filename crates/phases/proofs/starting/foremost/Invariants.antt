-- `foremost` meets its contract. By the loop: the foremost of the first i ports' tags.

use mathlib.Core.Path.{◌≡◌}
use Rattle.phases.specs.Beginning.{foremost}
use Rattle.phases.proofs.starting.foremost.Given as goal

abbrev pub invariant-loop-i : goal.invariant-loop-i
invariant-loop-i l = (l.fore ≡ foremost l.group l.state l.i)
