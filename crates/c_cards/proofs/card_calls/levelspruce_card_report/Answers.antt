-- The call meets its contract: 9, 1, 8 for a number that is no byte, and then what the group's sender answers.
-- Refused, the state is as given (`call_shut`). Otherwise the state is a card's (`opened`), and of what it is afterwards the owner row and the group's part are written (`call_kept`).
use Rattle.c_face.proofs.SenderCalls.{Three, three_said}
use Rattle.c_cards.proofs.TwoGroups.{opened, call_shut, call_unfit, call_kept}
use Rattle.c_face.specs.Senders.{are_bytes}
use Rattle.cards.specs.Calls.Call.{Report}
use mathlib.Core.Path.{◌∙◌, sym}
use Rattle.c_cards.proofs.card_calls.levelspruce_card_report.Goals as goal

pub returns-then-first-ne0 : goal.returns-then-first-ne0
returns-then-first-ne0 c =
    call_shut c.args.state.now c.args.group _ c.refusal-first.ensures c.if-first-ne0.true (are_bytes c.args.epoch c.args.mst c.args.rs_ack) (Report c.args.epoch c.args.mst c.args.rs_ack)

pub returns-then-not-are_bytes : goal.returns-then-not-are_bytes
returns-then-not-are_bytes c =
    call_unfit c.args.state.now c.args.group (opened c.args.state.now c.args.group _ c.refusal-first.ensures c.if-first-ne0.false) (are_bytes c.args.epoch c.args.mst c.args.rs_ack) (Report c.args.epoch c.args.mst c.args.rs_ack) (sym c.are_bytes.ensures ∙ c.if-not-are_bytes.true)

pub own_card-card-requires : goal.own_card-card-requires
own_card-card-requires c =
    (opened c.args.state.now c.args.group _ c.refusal-first.ensures c.if-first-ne0.false).sized

pub overflow_cast-epoch : goal.overflow_cast-epoch
overflow_cast-epoch c =
    let t : Three c.args.epoch c.args.mst c.args.rs_ack = three_said _ _ _ (sym c.are_bytes.ensures ∙ c.if-not-are_bytes.false) in record { fits = t.first }

pub overflow_cast-mst : goal.overflow_cast-mst
overflow_cast-mst c =
    let t : Three c.args.epoch c.args.mst c.args.rs_ack = three_said _ _ _ (sym c.are_bytes.ensures ∙ c.if-not-are_bytes.false) in record { fits = t.second }

pub overflow_cast-rs_ack : goal.overflow_cast-rs_ack
overflow_cast-rs_ack c =
    let t : Three c.args.epoch c.args.mst c.args.rs_ack = three_said _ _ _ (sym c.are_bytes.ensures ∙ c.if-not-are_bytes.false) in record { fits = t.third }

pub keep-requires : goal.keep-requires
keep-requires c =
    (opened c.args.state.now c.args.group _ c.refusal-first.ensures c.if-first-ne0.false).sized

pub returns : goal.returns
returns c =
    call_kept c.args.state.now c.args.group (opened c.args.state.now c.args.group _ c.refusal-first.ensures c.if-first-ne0.false) _ c.own_card-card.ensures (are_bytes c.args.epoch c.args.mst c.args.rs_ack) (Report c.args.epoch c.args.mst c.args.rs_ack) _ _ _ (sym c.are_bytes.ensures ∙ c.if-not-are_bytes.false) c.report.ensures.told c.keep.ensures
