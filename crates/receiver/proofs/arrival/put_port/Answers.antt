use Rattle.receiver.proofs.Arriving.{port_rows_lem}
use Rattle.receiver.proofs.arrival.put_port.Goals as goal

pub returns : goal.returns
returns c =
    port_rows_lem _ _ _ _ _ _ _ _ _ c.previous_tag-tag.ensures c.put.ensures c.gather.ensures c.mark.ensures
