use Rattle.phases.specs.Beginning.{no_tag}
use mathlib.Core.Path.{refl}
use Rattle.phases.proofs.starting.leads.Goals as goal

pub returns : goal.returns
unfolding no_tag
returns c = rw (c.distance-distance.ensures, c.no_tag-none.ensures, c.latest-tag.ensures, c.in_step-in_step.ensures) refl
