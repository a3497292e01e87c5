use mathlib.Core.Path.{◌∙◌, ap, sym}
use Rattle.c_face.specs.Keeping.{sender_of}
use Rattle.c_face.specs.Laws.Sharing.{themselves, zeros}
use Rattle.c_face.proofs.sharing.sender_of.Goals as goal

pub returns-then-state-ne-SENDER_BYTES : goal.returns-then-state-ne-SENDER_BYTES
returns-then-state-ne-SENDER_BYTES c = c.sender_of.ensures ∙ ap sender_of (sym (zeros 397 c.args.state.now c.if-state-ne-SENDER_BYTES.true))

pub returns : goal.returns
returns c = c.sender_of-2.ensures ∙ ap sender_of (sym (themselves 397 c.args.state.now c.if-state-ne-SENDER_BYTES.false))
