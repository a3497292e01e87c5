use Rattle.c_face.proofs.SenderCalls.{known_sent, unknown}
use Rattle.c_face.proofs.senders.is_sent.Goals as goal

pub returns-then-kind-gt255 : goal.returns-then-kind-gt255
returns-then-kind-gt255 c = unknown _ c.if-kind-gt255.true

pub returns : goal.returns
returns c = known_sent _ _ c.is_known-known.ensures
