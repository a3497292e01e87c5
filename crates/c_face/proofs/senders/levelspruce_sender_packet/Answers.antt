use Rattle.c_face.proofs.SenderCalls.{packet_length, packet_own}
use Rattle.c_face.proofs.senders.levelspruce_sender_packet.Goals as goal

pub returns-then-state-ne-SENDER_BYTES : goal.returns-then-state-ne-SENDER_BYTES
returns-then-state-ne-SENDER_BYTES c = packet_length _ _ _ c.if-state-ne-SENDER_BYTES.true

pub returns : goal.returns
returns c = packet_own _ _ _ _ _ _ _ c.if-state-ne-SENDER_BYTES.false c.sender_of-sender.ensures c.packet.ensures.0 c.packet.ensures.1 c.number_told.ensures
