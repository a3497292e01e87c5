-- `is_in_arc` meets its contract: the tests and the sum of the definition, which fit their types.
use mathlib.Core.Path.{refl}
use Rattle.phases.specs.Beginning.{in_arc}
use Rattle.phases.proofs.starting.is_in_arc.Goals as goal

pub returns : goal.returns
unfolding in_arc
returns c = rw (c.epoch_frames-frames.ensures, c.distance-distance.ensures, c.latest-tag.ensures, c.in_step-in_step.ensures) refl
