-- The definition's three conditions in its order; where a port is not ready the first decides, and the two others are not worked out.
use mathlib.Core.Path.{refl}
use Rattle.phases.specs.Beginning.{begins}
use Rattle.phases.proofs.starting.is_begun_by.Goals as goal

pub returns-then-not-all_ready : goal.returns-then-not-all_ready
unfolding begins
returns-then-not-all_ready c = rw (← c.all_ready.ensures, c.if-not-all_ready.true) refl

pub returns : goal.returns
unfolding begins
returns c = rw (← c.all_ready.ensures, c.if-not-all_ready.false, ← c.foremost-fore.ensures, ← c.no_tag.ensures, ← c.all_in_arc-within.ensures) refl
