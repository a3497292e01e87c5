use Rattle.packet.proofs.OneNumber.{read_right, read_wrong}
use Rattle.packet.proofs.vc12.read_number.Goals as goal

pub returns-then-left_of-ne0 : goal.returns-then-left_of-ne0
returns-then-left_of-ne0 c = read_wrong _ _ c.left_of.ensures c.if-left_of-ne0.true

pub returns : goal.returns
returns c = read_right _ _ _ _ c.left_of.ensures c.if-left_of-ne0.false c.fields_of.ensures c.by_word.ensures
