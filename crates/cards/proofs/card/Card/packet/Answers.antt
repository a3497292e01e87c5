use Rattle.std.proofs.Common.{arith}
use Rattle.std.proofs.lemmas.Grind.{common_steps}
use Rattle.cards.specs.Readings.{packet_answer, packet_bytes}
use Rattle.cards.proofs.card.Card.packet.Goals as goal

pub returns-in_err-check_own : goal.returns-in_err-check_own
unfolding packet_answer packet_bytes
returns-in_err-check_own c = grind (arith, common_steps)

pub returns-in_err-packet : goal.returns-in_err-packet
unfolding packet_answer packet_bytes
returns-in_err-packet c = grind (arith, common_steps)

pub returns : goal.returns
unfolding packet_answer packet_bytes
returns c = grind (arith, common_steps)
