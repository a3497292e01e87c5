use Rattle.c_face.proofs.Answers.{vc12_wrong, vc12_right}
use Rattle.c_face.proofs.packets.levelspruce_packet_read_vc12.Goals as goal

pub returns-then-fields-ne10 : goal.returns-then-fields-ne10
returns-then-fields-ne10 c = vc12_wrong _ _ c.if-fields-ne10.true

pub returns : goal.returns
returns c =
    vc12_right _ _ _ _ _ c.if-fields-ne10.false c.read_vc12-reading.ensures c.put_reading.ensures
