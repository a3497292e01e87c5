use Rattle.std.proofs.Common.{arith}
use Rattle.std.proofs.lemmas.Grind.{common_steps}
use Rattle.cards.specs.Readings.{payload_answer, payload_bytes}
use Rattle.cards.proofs.card.Card.payload.Goals as goal

pub returns-in_err-check_own : goal.returns-in_err-check_own
unfolding payload_answer payload_bytes
returns-in_err-check_own c = grind (arith, common_steps)

pub returns-in_err-payload : goal.returns-in_err-payload
unfolding payload_answer payload_bytes
returns-in_err-payload c = grind (arith, common_steps)

pub returns : goal.returns
unfolding payload_answer payload_bytes
returns c = grind (arith, common_steps)
