use Rattle.judge.specs.Verdict.{highest}
use Rattle.judge.proofs.seen.Ports.highest.Goals as goal

pub returns : goal.returns
unfolding highest
returns c = rw c.tally.ensures
