use Rattle.mending.specs.Lines.{capital}
use lib.Seq.{set_out}
use mathlib.Core.Path.{refl, sym}
use Rattle.mending.proofs.copying.restore_at.Goals as goal

pub returns-then-place-mended : goal.returns-then-place-mended
returns-then-place-mended c = rw (c.if-is.true, c.capital_of.ensures) refl

pub returns-else-place-mended : goal.returns-else-place-mended
returns-else-place-mended c = rw c.if-is.true (sym (set_out c.args.mended.now c.args.place (capital c.args.count) c.if-place-mended.false))

pub returns-else-is : goal.returns-else-is
returns-else-is c = rw c.if-is.false refl
