use Rattle.c_face.proofs.Answers.{write_vc12_lem}
use Rattle.c_face.proofs.packets.levelspruce_packet_write_vc12.Goals as goal

pub returns : goal.returns
returns c = write_vc12_lem _ _ _ _ c.put_packet.ensures
