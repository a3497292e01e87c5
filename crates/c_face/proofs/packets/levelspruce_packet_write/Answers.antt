use Rattle.c_face.proofs.Answers.{write_h4}
use Rattle.c_face.proofs.packets.levelspruce_packet_write.Goals as goal

pub returns : goal.returns
returns c = write_h4 _ _ _ _ c.put_packet.ensures
