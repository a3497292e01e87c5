-- `tightest` meets its contract. By the loop: the tightest of the stretches with the first so many starts.
use Rattle.std.proofs.Common.{◌≡◌}
use Rattle.paths.specs.Planning.{tightest}
use Rattle.paths.proofs.planning.tightest.Given as goal

abbrev pub invariant-loop-first : goal.invariant-loop-first
invariant-loop-first l = l.best ≡ tightest l.sorted l.far l.first
