use mathlib.Core.Path.{refl}
use Rattle.phases.specs.ByTable.{passed_with}
use Rattle.phases.proofs.passing.pass_with.Goals as goal

pub returns : goal.returns
unfolding passed_with
returns c = rw (c.put.ensures, c.pass_ports.ensures, c.passed_group-next.ensures) refl
