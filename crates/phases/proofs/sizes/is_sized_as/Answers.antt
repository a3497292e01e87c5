use mathlib.Core.Path.{refl}
use Rattle.phases.proofs.sizes.is_sized_as.Goals as goal

pub returns : goal.returns
returns c = rw (← c.epoch_frames-frames.ensures, ← c.tag_count-tags.ensures) refl
