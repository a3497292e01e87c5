-- After i turns it is found exactly if one of the first i ports has a number that a port below it has too, as the definition counts them.
use Rattle.std.specs.Prelude.{◌≡◌}
use Rattle.judge.specs.Verdict.{repeats}
use Rattle.judge.proofs.seen.Ports.has_pairs.Given as goal

abbrev pub invariant-loop-i : goal.invariant-loop-i
invariant-loop-i l = l.found ≡ repeats l.port-items l.i
