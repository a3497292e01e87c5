use mathlib.Core.Path.{◌∙◌, sym}
use Rattle.c_face.specs.Laws.Sharing.{sized, unsized}
use Rattle.c_face.proofs.sharing.put_sender.Goals as goal

pub returns-then-state-eq-SENDER_BYTES : goal.returns-then-state-eq-SENDER_BYTES
returns-then-state-eq-SENDER_BYTES c = c.put_sender.ensures ∙ sym (sized 397 _ c.args.state.now c.if-state-eq-SENDER_BYTES.true)

pub returns-else-state-eq-SENDER_BYTES : goal.returns-else-state-eq-SENDER_BYTES
returns-else-state-eq-SENDER_BYTES c = sym (unsized 397 _ c.args.state.now c.if-state-eq-SENDER_BYTES.false)
