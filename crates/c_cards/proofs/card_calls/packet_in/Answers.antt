-- `packet_in` meets its contract: 1 or 14 where the slot is refused, else what the group's sender answers and writes.
use mathlib.Core.Path.{ap, ◌∙◌}
use Rattle.ground.specs.Refusals.{number_told}
use Rattle.sender.specs.Answers.{refusal_number}
use Rattle.sender.specs.Theorems.Told.{told_number}
use Rattle.c_cards.specs.Laws.Slots.{slot_refused, slot_taken}
use Rattle.c_cards.proofs.card_calls.packet_in.Goals as goal

pub returns-then-first-ne0 : goal.returns-then-first-ne0
returns-then-first-ne0 c =
    rw (← c.sender_of-sender.ensures) (slot_refused c.args.owner c.args.group c.sender_of-sender.result c.args.slot c.args.h4.now _ c.slot_refusal-first.ensures c.if-first-ne0.true)

pub returns : goal.returns
returns c =
    rw (← c.sender_of-sender.ensures) (slot_taken c.args.owner c.args.group c.sender_of-sender.result c.args.slot c.args.h4.now _ c.slot_refusal-first.ensures c.if-first-ne0.false _ _ (c.number_told.ensures ∙ ap (number_told refusal_number) c.packet.ensures.0 ∙ told_number _ tt) c.packet.ensures.1)
