use mathlib.Core.Path.{refl}
use Rattle.c_face.proofs.senders.is_no_start.Goals as goal

pub returns : goal.returns
returns c = rw (c.is_outside-out.ensures, c.is_sent-sent.ensures) refl
