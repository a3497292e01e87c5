-- The call meets its contract: 9, 8 for a field that is no byte, and then what the sender answers.
-- Each exit cites one law of SenderCalls, in the order of the tests; behind them the three fields are bytes (`three_said`).
use mathlib.Core.Path.{◌∙◌, sym}
use native.Mathlib.Omega.{arith}
use Rattle.c_face.specs.Senders.{are_bytes}
use Rattle.c_face.proofs.SenderCalls.{Three, call_length, call_unfit, call_kept, three_said}
use Rattle.sender.specs.Epochs.SenderCall.{StartEpoch}
use Rattle.c_face.proofs.senders.levelspruce_sender_start_epoch.Goals as goal

pub returns-then-state-ne-SENDER_BYTES : goal.returns-then-state-ne-SENDER_BYTES
returns-then-state-ne-SENDER_BYTES c =
    call_length _ (are_bytes c.args.gid c.args.mst c.args.rs_ack) (StartEpoch c.args.gid c.args.mst c.args.rs_ack) c.if-state-ne-SENDER_BYTES.true

pub returns-then-not-are_bytes : goal.returns-then-not-are_bytes
returns-then-not-are_bytes c =
    call_unfit _ (are_bytes c.args.gid c.args.mst c.args.rs_ack) (StartEpoch c.args.gid c.args.mst c.args.rs_ack) c.if-state-ne-SENDER_BYTES.false (sym c.are_bytes.ensures ∙ c.if-not-are_bytes.true)

pub overflow_cast-gid : goal.overflow_cast-gid
overflow_cast-gid c =
    let t : Three c.args.gid c.args.mst c.args.rs_ack = three_said _ _ _ (sym c.are_bytes.ensures ∙ c.if-not-are_bytes.false) in record { fits = t.first }

pub overflow_cast-mst : goal.overflow_cast-mst
overflow_cast-mst c =
    let t : Three c.args.gid c.args.mst c.args.rs_ack = three_said _ _ _ (sym c.are_bytes.ensures ∙ c.if-not-are_bytes.false) in omega arith

pub overflow_cast-rs_ack : goal.overflow_cast-rs_ack
overflow_cast-rs_ack c =
    let t : Three c.args.gid c.args.mst c.args.rs_ack = three_said _ _ _ (sym c.are_bytes.ensures ∙ c.if-not-are_bytes.false) in omega (arith, t.third)

pub returns : goal.returns
returns c =
    call_kept _ (are_bytes c.args.gid c.args.mst c.args.rs_ack) (StartEpoch c.args.gid c.args.mst c.args.rs_ack) _ _ _ _ c.if-state-ne-SENDER_BYTES.false (sym c.are_bytes.ensures ∙ c.if-not-are_bytes.false) c.sender_of-sender.ensures c.start_epoch.ensures.told c.keep.ensures
