use mathlib.Core.Bool.{true}
use mathlib.Core.Path.{refl}
use Rattle.c_face.proofs.SenderCalls.{call_length, call_kept}
use Rattle.sender.specs.Calls.Call.{RemoveSlot}
use Rattle.sender.specs.Epochs.SenderCall.{OnTable}
use Rattle.c_face.proofs.senders.levelspruce_sender_remove.Goals as goal

pub returns-then-state-ne-SENDER_BYTES : goal.returns-then-state-ne-SENDER_BYTES
returns-then-state-ne-SENDER_BYTES c =
    call_length _ true (OnTable (RemoveSlot c.args.slot)) c.if-state-ne-SENDER_BYTES.true

pub returns : goal.returns
returns c =
    call_kept _ true (OnTable (RemoveSlot c.args.slot)) _ _ _ _ c.if-state-ne-SENDER_BYTES.false refl c.sender_of-sender.ensures c.remove.ensures.told c.keep.ensures
