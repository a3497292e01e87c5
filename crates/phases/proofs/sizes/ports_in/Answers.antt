use mathlib.Core.Path.{refl}
use Rattle.phases.specs.Sizes.{ports_in}
use Rattle.phases.proofs.sizes.ports_in.Goals as goal

pub returns-then-is_sized : goal.returns-then-is_sized
unfolding ports_in
returns-then-is_sized c = rw (← c.is_sized.ensures, c.if-is_sized.true) refl

pub returns : goal.returns
unfolding ports_in
returns c = rw (← c.is_sized.ensures, c.if-is_sized.false) refl
