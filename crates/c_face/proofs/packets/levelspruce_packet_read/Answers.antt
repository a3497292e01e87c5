use Rattle.c_face.proofs.Answers.{read_wrong, read_right}
use Rattle.c_face.proofs.packets.levelspruce_packet_read.Goals as goal

pub returns-then-fields-ne10 : goal.returns-then-fields-ne10
returns-then-fields-ne10 c = read_wrong _ _ c.if-fields-ne10.true

pub returns : goal.returns
returns c =
    read_right _ _ _ _ _ c.if-fields-ne10.false c.read-reading.ensures c.put_reading.ensures
