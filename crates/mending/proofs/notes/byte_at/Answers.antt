use lib.ListN.{get_or-eq_default}
use mathlib.Core.Path.{sym}
use Rattle.mending.proofs.notes.byte_at.Goals as goal

pub returns-else-place-text : goal.returns-else-place-text
returns-else-place-text c = sym (get_or-eq_default c.args.text.now 0 c.if-place-text.false)
