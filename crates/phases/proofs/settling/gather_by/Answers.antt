-- `gather_by` meets its contract: each exit is the definition at the tests that the code took.
use mathlib.Core.Path.{refl}
use Rattle.phases.specs.Settling.{gather_by}
use Rattle.phases.proofs.settling.gather_by.Goals as goal

pub returns-then-is_complete : goal.returns-then-is_complete
unfolding gather_by
returns-then-is_complete c =
    rw (← c.is_set.ensures, ← c.is_set-2.ensures, c.if-is_set.true, ← c.is_complete.ensures, c.if-is_complete.true) c.pass.ensures

pub returns-else-is_complete : goal.returns-else-is_complete
unfolding gather_by
returns-else-is_complete c =
    rw (← c.is_set.ensures, ← c.is_set-2.ensures, c.if-is_set.true, ← c.is_complete.ensures, c.if-is_complete.false) refl

pub returns-else-is_set : goal.returns-else-is_set
unfolding gather_by
returns-else-is_set c = rw (← c.is_set.ensures, ← c.is_set-2.ensures, c.if-is_set.false) refl
