use mathlib.Core.Path.{refl}
use Rattle.phases.proofs.due.port_owes_nothing.Goals as goal

pub returns : goal.returns
returns c = rw (c.owes_nothing.ensures, c.marks-row.ensures, c.get-step.ensures) refl
