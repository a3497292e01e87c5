-- `stop_by` meets its contract: each exit is the definition at the tests that the code took.
use mathlib.Core.Path.{refl}
use Rattle.phases.specs.Settling.{stop_by}
use Rattle.phases.proofs.settling.stop_by.Goals as goal

pub returns-then-is_silent : goal.returns-then-is_silent
unfolding stop_by
returns-then-is_silent c =
    rw (← c.is_set.ensures, c.if-is_set.true, ← c.is_silent.ensures, c.if-is_silent.true) c.stop.ensures

pub returns-else-is_silent : goal.returns-else-is_silent
unfolding stop_by
returns-else-is_silent c = rw (← c.is_set.ensures, c.if-is_set.true, ← c.is_silent.ensures, c.if-is_silent.false) refl

pub returns-else-is_set : goal.returns-else-is_set
unfolding stop_by
returns-else-is_set c = rw (← c.is_set.ensures, c.if-is_set.false) refl
