use mathlib.Core.Path.{refl}
use Rattle.phases.specs.Passing.{passed_group}
use Rattle.phases.proofs.passing.passed_group.Goals as goal

pub returns : goal.returns
unfolding passed_group
returns c = rw (c.group_to.ensures, c.moved-origin.ensures, c.epoch_frames-frames.ensures, c.next_epoch-next.ensures) refl
