-- `stop` meets its contract: ports cleared, and the group stopped. The calls follow the definition.
use mathlib.Core.Path.{refl}
use Rattle.phases.specs.Settling.{stopped_of}
use Rattle.phases.proofs.settling.stop.Goals as goal

pub returns : goal.returns
unfolding stopped_of
returns c =
    rw (c.put.ensures, c.clear_ports.ensures, c.group_to-stopped.ensures) refl
