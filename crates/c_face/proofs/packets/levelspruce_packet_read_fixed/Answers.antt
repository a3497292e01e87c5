use Rattle.c_face.proofs.Answers.{fixed_wrong, fixed_right}
use Rattle.c_face.proofs.packets.levelspruce_packet_read_fixed.Goals as goal

pub returns-then-fields-ne10 : goal.returns-then-fields-ne10
returns-then-fields-ne10 c = fixed_wrong _ _ c.if-fields-ne10.true

pub returns : goal.returns
returns c =
    fixed_right _ _ _ _ _ c.if-fields-ne10.false c.read_fixed-reading.ensures c.put_reading.ensures
