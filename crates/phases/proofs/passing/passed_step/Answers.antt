use Rattle.ground.specs.FlagBytes.{byte_of_flag}
use Rattle.phases.specs.Passing.{passed_step}
use Rattle.phases.proofs.passing.passed_step.Goals as goal

pub returns : goal.returns
unfolding passed_step
returns c = rw (c.from.ensures, byte_of_flag c.args.whole, c.one_less.ensures)
