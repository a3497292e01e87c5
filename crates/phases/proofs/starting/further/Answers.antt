use mathlib.Core.Path.{refl}
use Rattle.phases.specs.Beginning.{further}
use Rattle.phases.proofs.starting.further.Goals as goal

pub returns-then-leads : goal.returns-then-leads
unfolding further
returns-then-leads c = rw (← c.leads.ensures, c.if-leads.true) c.latest.ensures

pub returns : goal.returns
unfolding further
returns c = rw (← c.leads.ensures, c.if-leads.false) refl
