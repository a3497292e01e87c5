use Rattle.ground.specs.FlagBytes.{byte_of_flag}
use Rattle.phases.specs.Settling.{cleared_step}
use Rattle.phases.proofs.settling.cleared_step.Goals as goal

pub returns : goal.returns
unfolding cleared_step
returns c = rw (c.from.ensures, byte_of_flag c.args.since)
