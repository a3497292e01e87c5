use mathlib.Core.Bool.{true}
use mathlib.Core.Path.{refl}
use Rattle.c_face.proofs.SenderCalls.{call_length, call_kept}
use Rattle.sender.specs.Calls.Call.{Lapse}
use Rattle.sender.specs.Epochs.SenderCall.{OnTable}
use Rattle.c_face.proofs.senders.levelspruce_sender_lapse.Goals as goal

pub returns-then-state-ne-SENDER_BYTES : goal.returns-then-state-ne-SENDER_BYTES
returns-then-state-ne-SENDER_BYTES c = call_length _ true (OnTable Lapse) c.if-state-ne-SENDER_BYTES.true

pub returns : goal.returns
returns c = call_kept _ true (OnTable Lapse) _ _ _ _ c.if-state-ne-SENDER_BYTES.false refl c.sender_of-sender.ensures c.lapse.ensures.told c.keep.ensures
