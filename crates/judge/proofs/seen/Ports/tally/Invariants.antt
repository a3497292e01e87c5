-- After i turns the tally is that of the first i ports; it counts no more of them than there are, so that the next still fits.
use Rattle.std.specs.Prelude.{◌≡◌}
use Rattle.judge.specs.Tally.{tally_of}
use Rattle.judge.proofs.seen.Ports.tally.Given as goal

abbrev pub invariant-loop-port : goal.invariant-loop-port
invariant-loop-port l = l.tally ≡ tally_of l.port-items l.port-index
