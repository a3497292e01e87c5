-- Five exits, one for each way through the length, the kind with the count, and the first epochs; under 4 with a right length an empty card is written. Each cites its law of TwoGroups.
use mathlib.Core.Path.{◌∙◌, ap, sym}
use Rattle.cards.specs.declared.card.Card.{Card}
use Rattle.c_cards.specs.Cards.{put_card}
use Rattle.c_face.proofs.SenderCalls.{epoch_byte, kind_byte}
use Rattle.c_cards.proofs.TwoGroups.{start_none, start_length, start_outside, start_unfit, start_done, start_is, start_not}
use Rattle.ground.specs.Truth.{and_left, and_right}
use Rattle.c_face.specs.Senders.{is_epoch}
use Rattle.c_cards.proofs.card_calls.start_by.Goals as goal

pub returns-then-is_no_start : goal.returns-then-is_no_start
returns-then-is_no_start c =
    start_none c.args.kind c.args.count c.args.first_epoch_0 c.args.first_epoch_1 _ c.if-state-ne-CARD_BYTES.true (sym c.is_no_start.ensures ∙ c.if-is_no_start.true)

pub returns-else-is_no_start : goal.returns-else-is_no_start
returns-else-is_no_start c =
    start_length c.args.kind c.args.count c.args.first_epoch_0 c.args.first_epoch_1 _ c.if-state-ne-CARD_BYTES.true (sym c.is_no_start.ensures ∙ c.if-is_no_start.false)

pub returns-then-is_no_start-2 : goal.returns-then-is_no_start-2
returns-then-is_no_start-2 c =
    start_outside c.args.kind c.args.count c.args.first_epoch_0 c.args.first_epoch_1 _ _ c.if-state-ne-CARD_BYTES.false (sym c.is_no_start-2.ensures ∙ c.if-is_no_start-2.true) (c.put_whole.ensures ∙ ap (λ (d : Card). put_card d c.args.state.now) c.empty.ensures)

pub overflow_cast-kind : goal.overflow_cast-kind
overflow_cast-kind c = record { fits = kind_byte _ c.args.count (sym c.is_no_start-2.ensures ∙ c.if-is_no_start-2.false) }

pub returns-then-not-are_epochs : goal.returns-then-not-are_epochs
returns-then-not-are_epochs c =
    start_unfit c.args.kind c.args.count c.args.first_epoch_0 c.args.first_epoch_1 _ c.if-state-ne-CARD_BYTES.false (sym c.is_no_start-2.ensures ∙ c.if-is_no_start-2.false) (sym c.are_epochs.ensures ∙ c.if-not-are_epochs.true)

pub overflow_cast-kind-2 : goal.overflow_cast-kind-2
overflow_cast-kind-2 c =
    record { fits = kind_byte _ c.args.count (sym c.is_no_start-2.ensures ∙ c.if-is_no_start-2.false) }

pub overflow_cast-first_epoch_0 : goal.overflow_cast-first_epoch_0
overflow_cast-first_epoch_0 c =
    record { fits = epoch_byte c.args.kind c.args.first_epoch_0 (and_left (is_epoch c.args.kind c.args.first_epoch_0) (is_epoch c.args.kind c.args.first_epoch_1) (sym c.are_epochs.ensures ∙ c.if-not-are_epochs.false)) }

pub overflow_cast-first_epoch_1 : goal.overflow_cast-first_epoch_1
overflow_cast-first_epoch_1 c =
    record { fits = epoch_byte c.args.kind c.args.first_epoch_1 (and_right (is_epoch c.args.kind c.args.first_epoch_0) (is_epoch c.args.kind c.args.first_epoch_1) (sym c.are_epochs.ensures ∙ c.if-not-are_epochs.false)) }

pub returns-in-Ok : goal.returns-in-Ok
returns-in-Ok c =
    let ranged = sym c.is_no_start-2.ensures ∙ c.if-is_no_start-2.false in
    let card = start_is c.args.kind c.args.count c.args.first_epoch_0 c.args.first_epoch_1 c.args.state.now ranged (sym c.in-Ok.is ∙ c.start.ensures.told) in
    start_done c.args.kind c.args.count c.args.first_epoch_0 c.args.first_epoch_1 _ _ c.if-state-ne-CARD_BYTES.false ranged (sym c.are_epochs.ensures ∙ c.if-not-are_epochs.false)
    (c.put_whole-in-Ok.ensures ∙ ap (λ (d : Card). put_card d c.args.state.now) card)

pub returns-in-Err : goal.returns-in-Err
returns-in-Err c =
    absurd (start_not c.args.kind c.args.count c.args.first_epoch_0 c.args.first_epoch_1 c.args.state.now (sym c.is_no_start-2.ensures ∙ c.if-is_no_start-2.false) (sym c.in-Err.is ∙ c.start.ensures.told))
