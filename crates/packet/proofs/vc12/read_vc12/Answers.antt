use Rattle.packet.proofs.OneNumber.{read_bytes, read_length}
use Rattle.packet.proofs.vc12.read_vc12.Goals as goal

pub returns-then-frames-ne32 : goal.returns-then-frames-ne32
returns-then-frames-ne32 c = read_length _ c.if-frames-ne32.true

pub returns : goal.returns
returns c = read_bytes _ _ _ c.if-frames-ne32.false c.number_of.ensures c.read_number.ensures
