use mathlib.Core.Path.{refl}
use Rattle.phases.specs.Beginning.{ready}
use Rattle.phases.proofs.starting.is_ready.Goals as goal

pub returns : goal.returns
unfolding ready
returns c = rw (c.is_set-2.ensures, c.is_set.ensures, c.in_step-in_step.ensures) refl
