-- `clear_port` meets its contract: the port's step cleared, then its marks (`cleared_is`).
use Rattle.phases.proofs.Cleared.{cleared_is}
use Rattle.phases.proofs.settling.clear_port.Goals as goal

pub returns : goal.returns
returns c =
    cleared_is _ _ _ _ _ _ _ _ _ c.get-step.ensures c.in_step-in_step.ensures c.cleared_step-cleared.ensures c.put.ensures c.put_marks.ensures
