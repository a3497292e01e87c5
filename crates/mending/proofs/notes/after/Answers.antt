use mathlib.Core.Path.{refl}
use Rattle.mending.proofs.notes.after.Goals as goal

pub returns-then-read : goal.returns-then-read
returns-then-read c = rw c.if-read.true refl

pub returns : goal.returns
returns c = rw c.if-read.false refl
