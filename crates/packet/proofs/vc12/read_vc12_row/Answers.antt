use Rattle.packet.proofs.OneNumber.{read_row_lem}
use Rattle.packet.proofs.vc12.read_vc12_row.Goals as goal

pub returns : goal.returns
returns c = read_row_lem _ _ _ c.number_in.ensures c.read_number.ensures
