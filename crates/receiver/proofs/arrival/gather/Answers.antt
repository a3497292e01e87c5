use Rattle.receiver.proofs.Arriving.{gather_none}
use Rattle.receiver.proofs.arrival.gather.Goals as goal

pub returns-else-counted : goal.returns-else-counted
returns-else-counted c = gather_none _ _ _ _ _ _ c.if-counted.false
