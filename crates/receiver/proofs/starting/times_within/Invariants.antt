-- No time is above 5,000: after each turn the answer is whether this is so of the counts walked.
use Rattle.std.specs.Prelude.{◌≡◌, get_or}
use Rattle.ground.specs.Counting.Words.{every}
use Rattle.ground.specs.Plain.{◌≤?◌}
use Rattle.receiver.specs.Starting.{timer_most}
use Rattle.receiver.proofs.starting.times_within.Given as goal

abbrev pub invariant-loop-count : goal.invariant-loop-count
invariant-loop-count l = l.all ≡ every l.count-index (λ j. get_or l.counts j 0 ≤? timer_most)
