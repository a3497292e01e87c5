-- `begin` meets its contract: ports cleared as at a beginning, and the group with the epoch after the foremost tag as its oldest. The calls follow the definition.
use mathlib.Core.Path.{refl}
use Rattle.phases.specs.Settling.{begun_of}
use Rattle.phases.proofs.settling.begin.Goals as goal

pub returns : goal.returns
unfolding begun_of
returns c =
    rw (c.put.ensures, c.clear_ports.ensures, c.group_to-begun.ensures, c.next_epoch-oldest.ensures, c.epoch_of-epoch.ensures, c.foremost-fore.ensures) refl
