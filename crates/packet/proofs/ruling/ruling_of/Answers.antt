use Rattle.packet.specs.ByTable.{ruling_with}
use Rattle.packet.proofs.ruling.ruling_of.Goals as goal

pub returns : goal.returns
unfolding ruling_with
returns c = rw (← c.read_row.ensures) c.ruling_by.ensures
