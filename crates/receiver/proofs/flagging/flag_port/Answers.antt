-- `flag_port` meets its contract: the step is put, and what follows for all ports where something does (`flagged_by`).
use Rattle.receiver.proofs.Reading.{flagged_by, settled_none, settled_some}
use Rattle.receiver.proofs.flagging.flag_port.Goals as goal

pub returns-then-taken : goal.returns-then-taken
returns-then-taken c =
    flagged_by _ _ _ _ _ _ _ _ c.get-group.ensures c.get-step.ensures c.decide-taken.ensures c.put.ensures
    (settled_some _ _ _ _ _ _ c.if-taken.true c.ports_in.ensures c.settle.ensures)

pub returns-else-taken : goal.returns-else-taken
returns-else-taken c =
    flagged_by _ _ _ _ _ _ _ _ c.get-group.ensures c.get-step.ensures c.decide-taken.ensures c.put.ensures (settled_none _ _ _ _ c.if-taken.false)
