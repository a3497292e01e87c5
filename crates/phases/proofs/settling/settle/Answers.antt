-- `settle` meets its contract: stopping, beginning and gathering, one behind the other, each with the group as the one before left it (`settled_is`).
use Rattle.phases.proofs.Settled.{settled_is}
use Rattle.phases.proofs.settling.settle.Goals as goal

pub returns : goal.returns
returns c =
    settled_is _ _ _ _ _ _ _ _ _ c.get-before.ensures c.stop_by.ensures c.get-stopped.ensures c.begin_by.ensures c.get-begun.ensures c.gather_by.ensures
