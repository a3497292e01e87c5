-- `begin_by` meets its contract: each exit is the definition at the tests that the code took.
use mathlib.Core.Path.{refl}
use Rattle.phases.specs.Settling.{begin_by}
use Rattle.phases.proofs.settling.begin_by.Goals as goal

pub returns-then-is_begun_by : goal.returns-then-is_begun_by
unfolding begin_by
returns-then-is_begun_by c =
    rw (← c.is_set.ensures, c.if-not-is_set.true, ← c.is_begun_by.ensures, c.if-is_begun_by.true) c.begin.ensures

pub returns-else-is_begun_by : goal.returns-else-is_begun_by
unfolding begin_by
returns-else-is_begun_by c = rw (← c.is_set.ensures, c.if-not-is_set.true, ← c.is_begun_by.ensures, c.if-is_begun_by.false) refl

pub returns-else-not-is_set : goal.returns-else-not-is_set
unfolding begin_by
returns-else-not-is_set c = rw (← c.is_set.ensures, c.if-not-is_set.false) refl
