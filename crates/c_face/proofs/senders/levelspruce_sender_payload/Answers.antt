use Rattle.c_face.proofs.SenderCalls.{payload_length, payload_own}
use Rattle.c_face.proofs.senders.levelspruce_sender_payload.Goals as goal

pub returns-then-state-ne-SENDER_BYTES : goal.returns-then-state-ne-SENDER_BYTES
returns-then-state-ne-SENDER_BYTES c = payload_length _ _ _ _ _ c.if-state-ne-SENDER_BYTES.true

pub returns : goal.returns
returns c = payload_own _ _ _ _ _ _ _ _ _ c.if-state-ne-SENDER_BYTES.false c.sender_of-sender.ensures c.payload.ensures.0 c.payload.ensures.1 c.number_told.ensures
