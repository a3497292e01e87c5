use Rattle.mending.specs.Lines.{capital}
use borrow.Author.Tests.{le-ltb, lt-ltb}
use mathlib.Core.Path.{refl}
use Rattle.mending.proofs.copying.capital_of.Goals as goal

pub returns-then-n-lt10 : goal.returns-then-n-lt10
unfolding capital
returns-then-n-lt10 c = rw (lt-ltb c.args.n 10 c.if-n-lt10.true) refl

pub returns-else-n-lt10 : goal.returns-else-n-lt10
unfolding capital
returns-else-n-lt10 c = rw (le-ltb c.args.n 10 c.if-n-lt10.false) refl
